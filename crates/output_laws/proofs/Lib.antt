mod Agree
pub mod Bytes
mod BytesOfEndpoints
pub mod BytesOfMessages
mod BytesOfProfiles
mod BytesOfRoutes
mod Configurations
mod Decimals
mod Diagnoses
mod Forms
pub mod Frames
mod Ids
pub mod Messages
mod PlainCore
mod PlainControls
mod PlainFaults
mod PlainLines
mod PlainNames
mod PlainObjects
mod PlainPolicies
mod PlainProfiles
mod PlainReads
mod PlainRoutes
mod PlainSlices
mod PlainTexts
mod SameObjects
mod SameRows
mod Tells
mod Without
mod Written
