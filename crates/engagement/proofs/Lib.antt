pub mod Appended
pub mod UriLemmas
pub mod WrittenReads
pub mod TextLemmas
