pub mod GhostWalks
