pub mod Containers
pub mod ContainerStates
pub mod Takings
