pub mod CountLeaves
