pub mod SessionLists
pub mod Going
pub mod StepCauses
pub mod ReplayCauses
