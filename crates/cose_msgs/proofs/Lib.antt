pub mod FourParts
pub mod MessageParts
pub mod StructureLaws
pub mod ThreeParts
pub mod TranscriptLaws
pub mod WrittenKeys
pub mod WrittenMessages
