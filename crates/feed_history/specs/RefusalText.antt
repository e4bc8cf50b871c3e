-- The text of a refusal.
use Rattle.std.specs.Prelude.{ℕ, List, [], ◌++◌, codes}
use Rattle.std.specs.Fmt.{decimal}
use Rattle.watch_events.specs.FaultText.{line_fault_text}
use Rattle.request_sim.specs.declared.fault.SimFault.{SimFault}
use Rattle.request_sim.specs.declared.fault.SimFault.TheVariants as sim
use Rattle.feed_history.specs.declared.refusal.HubFault.{HubFault}
use Rattle.feed_history.specs.declared.refusal.HubFault.TheVariants as hub
use Rattle.feed_history.specs.declared.refusal.Refusal.{Refusal}
use Rattle.feed_history.specs.declared.refusal.Refusal.TheVariants as refusals

-- Out of memory has no text, and a message that is too long has a line of its own.
abbrev pub hub_fault_text : HubFault → List ℕ
hub_fault_text hub.Memory = []
hub_fault_text (hub.Full held) = codes "Full " ++ decimal held
hub_fault_text (hub.TooManySubs live) = codes "TooManySubs " ++ decimal live
hub_fault_text (hub.IdOrder last) = codes "IdOrder " ++ decimal last
hub_fault_text (hub.NoSuchId id) = codes "NoSuchId " ++ decimal id
hub_fault_text (hub.Oversize bytes) = []

-- Out of memory has no text here either.
abbrev pub sim_fault_text : SimFault → List ℕ
sim_fault_text sim.Memory = []
sim_fault_text (sim.Pattern route rule item) = codes "Pattern " ++ (route ++ (codes " " ++ (decimal rule ++ (codes " " ++ decimal item))))

abbrev pub refusal_text : Refusal → List ℕ
refusal_text (refusals.Line fault) = line_fault_text fault
refusal_text (refusals.Hub fault) = hub_fault_text fault
refusal_text refusals.NotHere = codes "NotHere"
refusal_text refusals.Reserved = codes "Reserved"
refusal_text (refusals.Sim fault) = sim_fault_text fault
refusal_text (refusals.Profile place) = codes "Pattern profile " ++ decimal place
