pub mod States
pub use Rattle.markdown_containers.specs.ContainerStates
pub mod Building
