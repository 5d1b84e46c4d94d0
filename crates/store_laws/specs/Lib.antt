pub mod StoreLies
