pub mod OneAuthentication
