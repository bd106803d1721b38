pub mod Trees
