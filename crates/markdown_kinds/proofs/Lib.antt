mod Quoting
mod Items
