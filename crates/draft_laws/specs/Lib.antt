pub mod AsWallet
