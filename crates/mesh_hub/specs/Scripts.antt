-- The results of a script of replies: a call returns the next reply if that is a possible result of the call, and otherwise Memory.
use Rattle.std.specs.Prelude.{◌≡◌, ◌+◌, ◌-◌, ◌^◌, ◌==◌, ℕ, List, Option, Some, None, Result, Ok, Err, slice_get, if◌then◌else◌}
use Rattle.mesh_base.specs.declared.sub_id.SubId.{SubId}
use Rattle.view_types.specs.declared.verdict.Verdict.{Verdict}
use Rattle.request_sim.specs.declared.fault.SimFault.{SimFault}
use Rattle.request_sim.specs.declared.fault.SimFault.TheVariants as sim
use Rattle.feed_history.specs.declared.refusal.HubFault.{HubFault}
use Rattle.feed_history.specs.declared.refusal.HubFault.TheVariants.{Memory, Full, TooManySubs, IdOrder, NoSuchId, Oversize}
use Rattle.mesh_hub.specs.declared.machine.Reply.{Reply}
use Rattle.mesh_hub.specs.declared.machine.Reply.TheVariants as replies

-- the next reply, if there is one and the count of replies does not overflow
abbrev pub next_reply : List Reply → ℕ → Option Reply
next_reply script given = if given == 2 ^ 32 - 1 then None else slice_get script given

abbrev pub apply_answer : Option Reply → Result (Unit {0}) HubFault
apply_answer (Some replies.Done) = Ok tt
apply_answer (Some (replies.Refused (Full held))) = Err (Full held)
apply_answer _ = Err Memory

abbrev pub subscribe_answer : Option Reply → Result (Unit {0}) HubFault
subscribe_answer (Some replies.Done) = Ok tt
subscribe_answer (Some (replies.Refused (TooManySubs live))) = Err (TooManySubs live)
subscribe_answer (Some (replies.Refused (IdOrder last))) = Err (IdOrder last)
subscribe_answer _ = Err Memory

abbrev pub drain_answer : SubId → Option Reply → Result (List (List ℕ)) HubFault
drain_answer id (Some (replies.Frames of frames)) = if of.0 == id.0 then Ok frames else Err Memory
drain_answer id (Some (replies.TooBig of bytes)) = if of.0 == id.0 then Err (Oversize bytes) else Err Memory
drain_answer id (Some (replies.Refused (NoSuchId of))) = if of == id.0 then Err (NoSuchId id.0) else Err Memory
drain_answer id _ = Err Memory

abbrev pub simulate_answer : Option Reply → Result Verdict SimFault
simulate_answer (Some (replies.Verdict found)) = Ok found
simulate_answer _ = Err sim.Memory

-- the verdict, unless memory ran out
abbrev pub IsVerdictOrMemory : Result Verdict SimFault → Result Verdict SimFault → Type 0
IsVerdictOrMemory answer (Err sim.Memory) = Unit {0}
IsVerdictOrMemory answer result = result ≡ answer

-- how many replies were used after a call with this result
abbrev pub given_after : {T : Type 0} → Result T HubFault → ℕ → ℕ
given_after (Err Memory) given = given
given_after _ given = given + 1

abbrev pub given_after_verdict : Result Verdict SimFault → ℕ → ℕ
given_after_verdict (Err sim.Memory) given = given
given_after_verdict _ given = given + 1
