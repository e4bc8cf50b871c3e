-- The bytes that open a stream, read as one piece.
use Rattle.std.proofs.Common.{◌≡◌, ℕ, Bool, true, false, List, [], ◌∷◌, Ok, Err, refl, sym, ap, ◌∙◌}
use Rattle.std.specs.Prelude.{Result}
use Rattle.mesh_base.specs.declared.limits.Limits.{Limits}
use Rattle.session_core.specs.Phases.{Phase, Opening, Feeding, Asking, Asked, phase_of}
use Rattle.session_core.specs.Pieces.{answer_to, asks_beyond, asks_by, asks_in, given_first}
use Rattle.session_core.specs.declared.session.Ask.{Ask}
use Rattle.session_core.specs.declared.session.SessionFault.{SessionFault}
use Rattle.view_types.specs.declared.config.Config.{Config}
use Rattle.view_relay.specs.Accepted.{opened}
use Rattle.view_relay.specs.Openings.{first_query}
use Rattle.view_relay.specs.declared.fault.RelayFault.TheVariants.{Session}

none_opens : (config : Config) (limits : Limits) → phase_of config limits [] ≡ Ok Opening
unfolding phase_of
none_opens config limits = refl

beyond_none : (now : Result (List Ask) SessionFault) → asks_beyond (Ok []) now ≡ now
beyond_none (Ok asks) = refl
beyond_none (Err fault) = refl

abbrev is_end : List ℕ → Bool
is_end [] = true
is_end (byte ∷ bytes) = false

-- the answer to the only piece is what its bytes request
answered : (config : Config) (limits : Limits) (bytes : List ℕ) → answer_to config limits given_first bytes ≡ asks_by limits.line (is_end bytes) (phase_of config limits bytes)
answered config limits [] =
    ap (λ phase. asks_beyond (asks_by limits.line false phase) (asks_by limits.line true (phase_of config limits []))) (none_opens config limits)
    ∙ beyond_none (asks_by limits.line true (phase_of config limits []))
answered config limits (byte ∷ bytes) =
    ap (λ phase. asks_beyond (asks_by limits.line false phase) (asks_by limits.line false (phase_of config limits (byte ∷ bytes)))) (none_opens config limits)
    ∙ beyond_none (asks_by limits.line false (phase_of config limits (byte ∷ bytes)))

first_in : (limit : ℕ) (ended : Bool) (phase : Phase) → opened (Ok phase) ≡ first_query (asks_in limit ended phase)
first_in limit true Opening = refl
first_in limit false Opening = refl
first_in limit ended (Feeding text) = refl
first_in limit true Asking = refl
first_in limit false Asking = refl
first_in limit ended (Asked query) = refl

first_is : (limit : ℕ) (ended : Bool) (phase : Result Phase SessionFault) (asks : List Ask) → asks_by limit ended phase ≡ Ok asks → opened phase ≡ first_query asks
first_is limit ended (Err fault) asks is = absurd (cc is)
first_is limit ended (Ok phase) asks is = let same : asks_in limit ended phase ≡ asks = cc is in first_in limit ended phase ∙ ap first_query same

fault_is : (limit : ℕ) (ended : Bool) (phase : Result Phase SessionFault) (fault : SessionFault) → asks_by limit ended phase ≡ Err fault → opened phase ≡ Err (Session fault)
fault_is limit ended (Err found) fault is = let same : found ≡ fault = cc is in ap (λ fault. Err (Session fault)) same
fault_is limit ended (Ok phase) fault is = absurd (cc is)

pub opens : (config : Config) (limits : Limits) (bytes : List ℕ) (asks : List Ask) → answer_to config limits given_first bytes ≡ Ok asks → opened (phase_of config limits bytes) ≡ first_query asks
opens config limits bytes asks is = first_is limits.line (is_end bytes) (phase_of config limits bytes) asks (sym (answered config limits bytes) ∙ is)

pub refused : (config : Config) (limits : Limits) (bytes : List ℕ) (fault : SessionFault) → answer_to config limits given_first bytes ≡ Err fault → opened (phase_of config limits bytes) ≡ Err (Session fault)
refused config limits bytes fault is = fault_is limits.line (is_end bytes) (phase_of config limits bytes) fault (sym (answered config limits bytes) ∙ is)
