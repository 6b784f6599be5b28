pub mod Doors
pub mod Cabinets
pub mod MemoryDoors
pub mod MemoryDoorView
pub mod MemoryCabinets
pub mod MemoryFileView
pub mod MemoryCabinetView
