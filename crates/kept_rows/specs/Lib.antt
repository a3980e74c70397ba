pub mod Kind2
