-- A link that is kept has its turn where its state says so.
use Rattle.std.proofs.Common.{◌≡◌, ℕ, Bool, true, false, not, ◌&&◌, ◌||◌, List, [], ◌∷◌, Option, Ok, Err, Result, refl, sym, ap, ◌∙◌}
use Rattle.std.specs.Prelude.{is_some}
use Rattle.session_core.specs.Phases.{Phase, Opening, Feeding, Asking, Asked, is_feeding, query_in}
use Rattle.session_core.specs.declared.session.SessionFault.{SessionFault}
use Rattle.mesh_hub.specs.Due.{is_due as is_due_in}
use Rattle.fed_hub.specs.declared.hub.FedHub.{FedHub}
use Rattle.link_sessions.specs.Roles.{is_to_drain, is_to_read, is_to_write}
use Rattle.link_sessions.specs.declared.link.Link.{Link}
use Rattle.serve_rules.specs.FedLines.{FedRow}
use Rattle.serve_rules.specs.Batches.{Serving}
use Rattle.serve_rules.specs.LinkStates.{LinkState, has_work, is_due, is_due_for, is_empty, may_drain, may_read, may_write, phase_in}
use Rattle.serve_core.specs.Linked.{IsKept, role_by}
use Rattle.serve_core.specs.LinkTurns.{drains_due, has_any_turn, subscribes_to}
use Rattle.serve_core.specs.Served.{AreServed, IsServed}
use Rattle.serve_core.specs.Steps.{has_turn}
use Rattle.serve_core.specs.declared.turning.Pass.{Pass}
use Rattle.serve_core.specs.declared.turning.Pass.TheVariants as passes
use Rattle.serve_core.proofs.KeptTests.{AllOpen}
use Rattle.serve_core.proofs.Roles.{drains_is, reads_is, writes_is}

due_by : (due : ℕ → Bool) (serving : Serving) (fed : List FedRow) (drained : Option ℕ) (id_of : ℕ → ℕ) (number : ℕ) (phase : Result Phase SessionFault)
    → (is_some (query_in phase) ≡ true → due (id_of number) ≡ is_due_for serving fed drained (query_in phase)) → subscribes_to due (role_by id_of number (is_feeding phase) (query_in phase)) ≡ is_due_for serving fed drained (query_in phase)
due_by due serving fed drained id_of number (Ok Opening) is = refl
due_by due serving fed drained id_of number (Ok (Feeding text)) is = refl
due_by due serving fed drained id_of number (Ok Asking) is = refl
due_by due serving fed drained id_of number (Ok (Asked query)) is = is refl
due_by due serving fed drained id_of number (Err fault) is = refl

drains_by : (d w e : Bool) → (d && (w && e)) ≡ (true && (w && (e && d)))
drains_by true true true = refl
drains_by true true false = refl
drains_by true false e = refl
drains_by false true true = refl
drains_by false true false = refl
drains_by false false e = refl

works_by : (r w e d : Bool) → ((r || (true && (w && not e))) || (true && (w && (e && d)))) ≡ (r || (true && (w && (not e || d))))
works_by true w e d = refl
works_by false true true d = refl
works_by false true false d = refl
works_by false false e d = refl

module _ (serving : Serving) (fed : List FedRow) (id_of : ℕ → ℕ) (hub : FedHub) (s : LinkState) (link : Link) (is_open : s.is_open ≡ true) (served : IsServed serving fed id_of hub s) (kept : IsKept serving id_of s link) where
  due_is : subscribes_to (is_due_in hub.hub) link.role ≡ is_due serving fed s
  due_is = ap (λ role. subscribes_to (is_due_in hub.hub) role) kept.role ∙ due_by (is_due_in hub.hub) serving fed s.drained id_of s.number (phase_in serving s.bytes) served.due

  pub drain_is : drains_due hub link ≡ may_drain serving fed s
  drain_is =
      ap (λ b. b && is_to_drain link) due_is ∙ ap (λ b. is_due serving fed s && b) (drains_is serving id_of s link kept) ∙ drains_by (is_due serving fed s) s.writable (is_empty s.outbox)
      ∙ ap (λ b. b && (s.writable && (is_empty s.outbox && is_due serving fed s))) (sym is_open)

  pub work_is : has_any_turn hub link ≡ has_work serving fed s
  work_is =
      ap (λ b. (b || is_to_write link) || drains_due hub link) (reads_is serving id_of s link kept is_open) ∙ ap (λ b. (may_read serving s || b) || drains_due hub link) (writes_is serving id_of s link kept is_open)
      ∙ ap (λ b. (may_read serving s || may_write s) || b) drain_is
      ∙ ap (λ b. (may_read serving s || (b && (s.writable && not (is_empty s.outbox)))) || (b && (s.writable && (is_empty s.outbox && is_due serving fed s)))) is_open
      ∙ works_by (may_read serving s) s.writable (is_empty s.outbox) (is_due serving fed s) ∙ ap (λ b. may_read serving s || (b && (s.writable && (not (is_empty s.outbox) || is_due serving fed s)))) (sym is_open)

-- ---- in a pass

-- the test of a pass
abbrev pub link_test : Pass → FedHub → Link → Bool
link_test passes.Reads hub link = is_to_read link
link_test passes.Drains hub link = drains_due hub link
link_test passes.Writes hub link = is_to_write link

pub turn_is : (pass : Pass) (serving : Serving) (fed : List FedRow) (id_of : ℕ → ℕ) (hub : FedHub) (s : LinkState) (link : Link) → s.is_open ≡ true → IsServed serving fed id_of hub s → IsKept serving id_of s link
    → link_test pass hub link ≡ has_turn serving fed pass s
turn_is passes.Reads serving fed id_of hub s link is_open served kept = reads_is serving id_of s link kept is_open
turn_is passes.Drains serving fed id_of hub s link is_open served kept = drain_is serving fed id_of hub s link is_open served kept
turn_is passes.Writes serving fed id_of hub s link is_open served kept = writes_is serving id_of s link kept is_open

-- a link that is closed has none
pub turn_closed : (pass : Pass) (serving : Serving) (fed : List FedRow) (s : LinkState) → s.is_open ≡ false → has_turn serving fed pass s ≡ false
turn_closed passes.Reads serving fed s closed = ap (λ b. b && (s.readable && (not s.ended && (not (is_feeding (phase_in serving s.bytes)) || is_empty s.outbox)))) closed
turn_closed passes.Drains serving fed s closed = ap (λ b. b && (s.writable && (is_empty s.outbox && is_due serving fed s))) closed
turn_closed passes.Writes serving fed s closed = ap (λ b. b && (s.writable && not (is_empty s.outbox))) closed

pub work_closed : (serving : Serving) (fed : List FedRow) (s : LinkState) → s.is_open ≡ false → has_work serving fed s ≡ false
work_closed serving fed s closed =
    ap (λ b. may_read serving s || (b && (s.writable && (not (is_empty s.outbox) || is_due serving fed s)))) closed ∙ ap (λ b. b || false) (turn_closed passes.Reads serving fed s closed)

pub all_served : (serving : Serving) (fed : List FedRow) (id_of : ℕ → ℕ) (hub : FedHub) (links : List LinkState) → AreServed serving fed id_of hub links → AllOpen (λ s. IsServed serving fed id_of hub s) links
all_served serving fed id_of hub [] served = tt
all_served serving fed id_of hub (s ∷ links) served = (served.0, all_served serving fed id_of hub links served.1)
