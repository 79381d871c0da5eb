pub mod Certificates
pub mod Stack
pub mod Outcomes
pub mod Texts
pub mod Laws
