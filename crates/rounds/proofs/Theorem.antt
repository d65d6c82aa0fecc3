-- The promises of this crate: AckPromise and TwoListsPromise, SendingPromise, ClosingPromise, ReplyRoundPromise and GivesPromise.
pub use Rattle.rounds.proofs.Acks.{ack, two-lists}
pub use Rattle.rounds.proofs.Closing.{closing}
pub use Rattle.rounds.proofs.Round.{round, gives}
pub use Rattle.rounds.proofs.Sending.{sending}
