-- For the check: how many acknowledgements two lists have.
use Rattle.rounds.proofs.Acks.{acks-length}

pub ruleset ack_rules = (acks-length)
