pub mod Apart
pub mod Ended
pub mod MailEnded
pub mod Named
