pub mod OneScript
