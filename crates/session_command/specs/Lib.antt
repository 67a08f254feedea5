pub mod Standing
pub mod SessionAnswers
pub mod Sessions
pub mod Followed
pub mod EditHistory
pub mod SessionPromise
