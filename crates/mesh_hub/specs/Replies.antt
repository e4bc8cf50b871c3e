-- The replies that a call adds to a machine's list of replies, and the results that a call may return.
use Rattle.std.specs.Prelude.{◌≡◌, ℕ, List, [], ◌∷◌, Result, Ok, Err}
use Rattle.mesh_base.specs.declared.sub_id.SubId.{SubId}
use Rattle.view_types.specs.declared.verdict.Verdict.{Verdict}
use Rattle.request_sim.specs.declared.fault.SimFault.{SimFault}
use Rattle.request_sim.specs.declared.fault.SimFault.TheVariants as sim
use Rattle.feed_history.specs.declared.refusal.HubFault.{HubFault}
use Rattle.feed_history.specs.declared.refusal.HubFault.TheVariants.{Memory, Full, TooManySubs, IdOrder, NoSuchId, Oversize}
use Rattle.mesh_hub.specs.declared.machine.Reply.{Reply}
use Rattle.mesh_hub.specs.declared.machine.Reply.TheVariants as replies

-- the reply of a call that applies an event or subscribes; none if memory ran out
abbrev pub done_reply : Result (Unit {0}) HubFault → List Reply
done_reply (Ok done) = replies.Done ∷ []
done_reply (Err Memory) = []
done_reply (Err (Full held)) = replies.Refused (Full held) ∷ []
done_reply (Err (TooManySubs live)) = replies.Refused (TooManySubs live) ∷ []
done_reply (Err (IdOrder last)) = replies.Refused (IdOrder last) ∷ []
done_reply (Err (NoSuchId id)) = replies.Refused (NoSuchId id) ∷ []
done_reply (Err (Oversize bytes)) = replies.Refused (Oversize bytes) ∷ []

-- the reply of a drain
abbrev pub drain_reply : SubId → Result (List (List ℕ)) HubFault → List Reply
drain_reply id (Ok frames) = replies.Frames id frames ∷ []
drain_reply id (Err (Oversize bytes)) = replies.TooBig id bytes ∷ []
drain_reply id (Err Memory) = []
drain_reply id (Err (Full held)) = replies.Refused (Full held) ∷ []
drain_reply id (Err (TooManySubs live)) = replies.Refused (TooManySubs live) ∷ []
drain_reply id (Err (IdOrder last)) = replies.Refused (IdOrder last) ∷ []
drain_reply id (Err (NoSuchId unknown)) = replies.Refused (NoSuchId unknown) ∷ []

-- the reply of a simulation
abbrev pub sim_reply : Result Verdict SimFault → List Reply
sim_reply (Ok found) = replies.Verdict found ∷ []
sim_reply (Err (sim.Pattern route rule item)) = replies.Pattern (sim.Pattern route rule item) ∷ []
sim_reply (Err sim.Memory) = []

-- ---- the faults that a call may return

abbrev pub MayApply : Result (Unit {0}) HubFault → Type 0
MayApply (Ok done) = Unit {0}
MayApply (Err Memory) = Unit {0}
MayApply (Err (Full held)) = Unit {0}
MayApply (Err (TooManySubs live)) = ⊥
MayApply (Err (IdOrder last)) = ⊥
MayApply (Err (NoSuchId id)) = ⊥
MayApply (Err (Oversize bytes)) = ⊥

abbrev pub MaySubscribe : Result (Unit {0}) HubFault → Type 0
MaySubscribe (Ok done) = Unit {0}
MaySubscribe (Err Memory) = Unit {0}
MaySubscribe (Err (Full held)) = ⊥
MaySubscribe (Err (TooManySubs live)) = Unit {0}
MaySubscribe (Err (IdOrder last)) = Unit {0}
MaySubscribe (Err (NoSuchId id)) = ⊥
MaySubscribe (Err (Oversize bytes)) = ⊥

abbrev pub MayDrain : SubId → Result (List (List ℕ)) HubFault → Type 0
MayDrain id (Ok frames) = Unit {0}
MayDrain id (Err Memory) = Unit {0}
MayDrain id (Err (Full held)) = ⊥
MayDrain id (Err (TooManySubs live)) = ⊥
MayDrain id (Err (IdOrder last)) = ⊥
MayDrain id (Err (NoSuchId unknown)) = unknown ≡ id.0
MayDrain id (Err (Oversize bytes)) = Unit {0}
