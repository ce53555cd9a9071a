pub mod Habits
