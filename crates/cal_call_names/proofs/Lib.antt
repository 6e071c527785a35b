mod Ordering
mod Replies
mod ShownLists
mod Agreeing
mod Deciding
