pub mod TrueSamples
pub mod WrongSamples
pub mod CutSampleLemmas
pub mod Following
pub mod Staying
pub mod FollowSamples
