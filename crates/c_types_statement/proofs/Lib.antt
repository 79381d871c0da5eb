pub mod Lists
pub mod LabelSets
pub mod GroupLabels
pub mod SwitchGroups
pub mod Declared
