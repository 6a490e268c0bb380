mod Flags
mod Spoken
mod Heard
mod Cuts
mod OwnWords
mod Told
mod TreeWords
mod EventWords
mod Going
mod OwnValues
pub mod Taking
