pub mod Engagement
pub mod EngagementView
pub mod Uri
pub mod WrittenEngagement
pub mod EngagementFile
