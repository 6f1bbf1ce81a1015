pub mod AppliedLaws
