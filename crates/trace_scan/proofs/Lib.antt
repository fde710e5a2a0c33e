pub mod ThreadedLemmas
pub mod FollowLemmas
