pub mod Chosen
pub mod CountedActions
pub mod PickedProfiles
pub mod StrategiesByNumber
