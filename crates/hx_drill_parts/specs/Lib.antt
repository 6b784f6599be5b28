pub mod Load
pub mod Samples
pub mod Mirrors
pub mod MirrorNets
