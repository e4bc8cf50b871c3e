-- What a piece makes of what a session keeps.
use Rattle.std.proofs.Common.{◌≡◌, ◌≢◌, ℕ, ◌+◌, ◌<◌, ◌≤◌, nat_lt, subst, Option, Some, None, Bool, true, false, List, [], ◌∷◌, ◌++◌, length, Ok, Err, Result, refl, sym, ap, ◌∙◌, append_assoc, length-append, arith}
use Rattle.std.specs.Prelude.{option_map, IfNone}
use Rattle.std.proofs.lemmas.Bool.Decides.{nat_tests}
use Rattle.std.proofs.lemmas.List.{append-nil}
use Rattle.line_run.proofs.Cut.{NoBreak-append}
use Rattle.line_run.specs.Rows.{NoBreak, Row, rows_of}
use Rattle.mesh_base.specs.declared.limits.Limits.{Limits}
use Rattle.proto_wire.specs.Frames.{head_of}
use Rattle.proto_wire.specs.Unframing.{Held}
use Rattle.view_types.specs.declared.config.Config.{Config}
use Rattle.view_types.specs.declared.query.Method.{Method}
use Rattle.view_types.specs.declared.query.Query.{Query}
use Rattle.session_core.specs.Feeds.{FeedPart, Takes}
use Rattle.session_core.specs.Paths.{first_line, onto_line, path_of}
use Rattle.session_core.specs.Lines.{rows_so_far}
use Rattle.session_core.specs.Pieces.{Given, asks_in, asks_so_far, given_next, line_ask, line_asks}
use Rattle.session_core.specs.Requests.{GivesPhase}
use Rattle.session_core.specs.Phases.{Phase, Opening, Feeding, Asking, Asked, asked_in, path_bound, phase_at, phase_behind, phase_of}
use Rattle.session_core.specs.States.{Asks, Begins, Cuts, Feeds, Goes, HasAsked, HasEnded, IsFault, Opens, ToFeed, ToRequest}
use Rattle.session_core.specs.declared.session.Ask.{Ask}
use Rattle.session_core.specs.declared.session.Ask.TheVariants as asks
use Rattle.session_core.specs.declared.session.Path.{Path}
use Rattle.session_core.specs.declared.session.Path.TheVariants as paths
use Rattle.session_core.specs.declared.session.SessionFault.{SessionFault}
use Rattle.session_core.specs.declared.session.SessionFault.TheVariants as faults
use Rattle.session_core.specs.declared.state.State.TheVariants as states
use Rattle.session_core.proofs.RowCuts.{rows_are_cut}
use Rattle.session_core.proofs.PhaseLaws.{IsMore, bad_at, fault_stays, feed_goes_on, first_more, nothing_follows, opening_at}

-- what holds where nothing was found
pub at_none : {A : Type 0} (found : Option A) (P : Type 0) → found ≡ None → IfNone found P → P
at_none found P is holds = subst (λ o. IfNone o P) is holds

pub asks_at : (config : Config) (limits : Limits) (given : Given) (ended : Bool) (phase : Phase) → given.ended ≡ ended → phase_of config limits given.bytes ≡ Ok phase → asks_so_far config limits given ≡ Ok (asks_in limits.line ended phase)
asks_at config limits given ended phase live is = rw (live, is) refl

-- ---- a request

request_now : (config : Config) (limits : Limits) (given next : Given) (method : Method) (rest : List ℕ) → ToRequest config limits given next method rest → phase_of config limits next.bytes ≡ asked_in config method (head_of limits.request rest)
request_now config limits given next method rest t = ap (phase_of config limits) (sym (append-nil next.bytes)) ∙ t.asks [] ∙ ap (λ z. asked_in config method (head_of limits.request z)) (append-nil rest)

pub asked_goes : (config : Config) (limits : Limits) (given next : Given) (method : Method) (rest : List ℕ) (query : Query) (added : List Ask)
    → ToRequest config limits given next method rest → asked_in config method (head_of limits.request rest) ≡ Ok (Asked query) → added ≡ asks.Subscribe query ∷ []
    → Goes config limits given next (record { asks = added; state = states.Asked })
asked_goes config limits given next method rest query added t h is =
    let phase = request_now config limits given next method rest t ∙ h in
    record {
      adds = record { before = []; was = t.none; now = asks_at config limits next false (Asked query) t.live phase ∙ ap Ok (sym is) };
      keeps = record { live = t.live; query = query; phase = phase };
    }

pub asking_goes : (config : Config) (limits : Limits) (given next : Given) (method : Method) (rest : List ℕ) (frames : Held) (added : List Ask)
    → ToRequest config limits given next method rest → asked_in config method (head_of limits.request rest) ≡ Ok Asking → added ≡ [] → frames.part ≡ Ok rest → frames.limit ≡ limits.request
    → Goes config limits given next (record { asks = added; state = states.Asking method frames })
asking_goes config limits given next method rest frames added t h is held limit =
    let phase = request_now config limits given next method rest t ∙ h in
    record {
      adds = record { before = []; was = t.none; now = asks_at config limits next false Asking t.live phase ∙ ap Ok (sym is) };
      keeps = record { live = t.live; rest = rest; held = held; limit = limit; phase = phase; asks = t.asks };
    }

fault_by : (fault : SessionFault) (now found : Result Phase SessionFault) → now ≡ found → GivesPhase (Err fault) found → IsFault fault now
fault_by faults.Memory now found same h = tt
fault_by faults.BadPath now found same h = same ∙ h
fault_by (faults.Proto fault) now found same h = same ∙ h
fault_by faults.Extra now found same h = same ∙ h

pub request_fault : (config : Config) (limits : Limits) (given next : Given) (method : Method) (rest : List ℕ) (fault : SessionFault)
    → ToRequest config limits given next method rest → GivesPhase (Err fault) (asked_in config method (head_of limits.request rest)) → IsFault fault (phase_of config limits next.bytes)
request_fault config limits given next method rest fault t h = fault_by fault (phase_of config limits next.bytes) (asked_in config method (head_of limits.request rest)) (request_now config limits given next method rest t) h

-- ---- a feed

pub line_asks-on : (before after : ℕ) (rows more : List Row) → after ≡ before + length rows → line_asks before (rows ++ more) ≡ line_asks before rows ++ line_asks after more
line_asks-on before after [] more is = let same : before ≡ after = omega (arith, is) in ap (λ n. line_asks n more) same
line_asks-on before after (row ∷ rows) more is =
    let next : after ≡ before + 1 + length rows = omega (arith, is) in
    ap (λ z. line_ask (before + 1) row ∷ z) (line_asks-on (before + 1) after rows more next)

pub feed_goes : (config : Config) (limits : Limits) (given next : Given) (text piece : List ℕ) (feed now : FeedPart) (asked added : List Ask)
    → Cuts limits.line text feed → ToFeed config limits given next text piece asked → NoBreak now.part → Takes limits.line feed.part feed.lines asked piece now.part now.lines added
    → Goes config limits given next (record { asks = added; state = states.Feeding now })
feed_goes config limits given next text piece feed now asked added c t none takes =
    let limit = limits.line in
    let before = rows_so_far limit false text in
    let rows = takes.rows in
    let cut : (more : List ℕ) → rows_of limit ((text ++ piece) ++ more) ≡ (before ++ rows) ++ rows_of limit (now.part ++ more) =
    λ more.
    ap (rows_of limit) (append_assoc text piece more) ∙ c.cut (piece ++ more) ∙ ap (λ z. before ++ rows_of limit z) (sym (append_assoc feed.part piece more))
    ∙ ap (λ z. before ++ z) (takes.cut more) ∙ sym (append_assoc before rows (rows_of limit (now.part ++ more))) in
    let same : rows_so_far limit false (text ++ piece) ≡ before ++ rows = rows_are_cut limit (text ++ piece) now.part (before ++ rows) none cut in
    let size : length (rows_so_far limit false (text ++ piece)) ≡ length before + length rows = ap length same ∙ length-append before rows in
    let lines : now.lines ≡ length (rows_so_far limit false (text ++ piece)) = omega (arith, size, takes.counted, c.lines) in
    let number : feed.lines ≡ 0 + length before = omega (arith, c.lines) in
    let asks_on : line_asks 0 (rows_so_far limit false (text ++ piece)) ≡ line_asks 0 before ++ line_asks feed.lines rows = ap (line_asks 0) same ∙ line_asks-on 0 feed.lines before rows number in
    let all : t.before ++ added ≡ asks.FeedBegins ∷ (line_asks 0 (rows_so_far limit false (text ++ piece)) ++ []) =
    ap (λ z. t.before ++ z) takes.asked ∙ sym (append_assoc t.before asked (line_asks feed.lines rows)) ∙ ap (λ z. z ++ line_asks feed.lines rows) t.asks
    ∙ ap (λ z. asks.FeedBegins ∷ z) (sym asks_on ∙ sym (append-nil (line_asks 0 (rows_so_far limit false (text ++ piece))))) in
    record {
      adds = record { before = t.before; was = t.was; now = asks_at config limits next false (Feeding (text ++ piece)) t.live t.phase ∙ ap Ok (sym all) };
      keeps = record { live = t.live; text = text ++ piece; phase = t.phase; cuts = record { lines = lines; cut = λ more. cut more ∙ ap (λ z. z ++ rows_of limit (now.part ++ more)) (sym same) } };
    }

-- ---- the path line

pub first_line-break : (line more : List ℕ) → NoBreak line → first_line (line ++ 10 ∷ more) ≡ Some (line, more)
first_line-break [] more none = refl
first_line-break (byte ∷ line) more none = rw none.0 (ap (option_map (onto_line byte)) (first_line-break line more none.1))

pub first_line-none : (bytes : List ℕ) → NoBreak bytes → first_line bytes ≡ None
first_line-none [] none = refl
first_line-none (byte ∷ bytes) none = rw none.0 (ap (option_map (onto_line byte)) (first_line-none bytes none.1))

pub path_cut : (part piece front rest now : List ℕ) → NoBreak part → NoBreak front → piece ≡ front ++ 10 ∷ rest → now ≡ part ++ front → first_line (part ++ piece) ≡ Some (now, rest)
path_cut part piece front rest now none more is whole =
    ap (λ z. first_line (part ++ z)) is ∙ ap first_line (sym (append_assoc part front (10 ∷ rest))) ∙ first_line-break (part ++ front) rest (NoBreak-append part front none more) ∙ ap (λ z. Some (z, rest)) (sym whole)

opening_phase : (config : Config) (limits : Limits) (bytes : List ℕ) → NoBreak bytes → length bytes < path_bound → phase_of config limits bytes ≡ Ok Opening
unfolding phase_of
opening_phase config limits bytes none short =
    let test : nat_lt (length bytes) path_bound ≡ true = grind (arith, nat_tests) in
    ap (phase_at config limits bytes) (first_line-none bytes none) ∙ opening_at config limits bytes test

pub long_fault : (config : Config) (limits : Limits) (bytes : List ℕ) → NoBreak bytes → path_bound ≤ length bytes → phase_of config limits bytes ≡ Err faults.BadPath
unfolding phase_of
long_fault config limits bytes none long =
    let test : nat_lt (length bytes) path_bound ≡ false = grind (arith, nat_tests) in
    ap (phase_at config limits bytes) (first_line-none bytes none) ∙ bad_at config limits bytes test

pub opens_phase : (config : Config) (limits : Limits) (given : Given) (part : List ℕ) → Opens part given → phase_of config limits given.bytes ≡ Ok Opening
opens_phase config limits given part o = ap (phase_of config limits) o.bytes ∙ opening_phase config limits part o.line o.short

opens_none : (config : Config) (limits : Limits) (given : Given) (part : List ℕ) → Opens part given → asks_so_far config limits given ≡ Ok []
opens_none config limits given part o = asks_at config limits given false Opening o.live (opens_phase config limits given part o)

pub opening_goes : (config : Config) (limits : Limits) (given next : Given) (part now : List ℕ) (added : List Ask) → Opens part given → next.ended ≡ false → next.bytes ≡ now → length now < path_bound → NoBreak now → added ≡ [] → Goes config limits given next (record { asks = added; state = states.Opening now })
opening_goes config limits given next part now added o live bytes short none is =
    let opens : Opens now next = record { live = live; bytes = bytes; short = short; line = none } in
    record { adds = record { before = []; was = opens_none config limits given part o; now = opens_none config limits next now opens ∙ ap Ok (sym is) }; keeps = opens }

behind_line : (config : Config) (limits : Limits) (bytes line rest more : List ℕ) → first_line bytes ≡ Some (line, rest) → phase_of config limits (bytes ++ more) ≡ phase_behind config limits (path_of line) (rest ++ more)
unfolding phase_of
behind_line config limits bytes line rest more is =
    let there : first_line (bytes ++ more) ≡ Some (line, rest ++ more) = subst (λ x. IsMore more x (first_line (bytes ++ more))) is (first_more bytes more) in
    ap (phase_at config limits (bytes ++ more)) there

pub begins : (config : Config) (limits : Limits) (given next : Given) (part bytes line rest : List ℕ) (path : Option Path) → Opens part given → next.ended ≡ false → next.bytes ≡ bytes → first_line bytes ≡ Some (line, rest) → path ≡ path_of line → Begins config limits given next path rest
begins config limits given next part bytes line rest path o live is first path_is = record {
  none = opens_none config limits given part o;
  live = live;
  phase = λ more. ap (λ z. phase_of config limits (z ++ more)) is ∙ behind_line config limits bytes line rest more first ∙ ap (λ p. phase_behind config limits p (rest ++ more)) (sym path_is);
}

pub bad_path : (config : Config) (limits : Limits) (given next : Given) (rest : List ℕ) → Begins config limits given next None rest → phase_of config limits next.bytes ≡ Err faults.BadPath
bad_path config limits given next rest b = ap (phase_of config limits) (sym (append-nil next.bytes)) ∙ b.phase []

pub to_request : (config : Config) (limits : Limits) (given next : Given) (method : Method) (rest : List ℕ) → Begins config limits given next (Some (paths.Asks method)) rest → ToRequest config limits given next method ([] ++ rest)
to_request config limits given next method rest b = record { none = b.none; live = b.live; asks = b.phase }

pub to_feed : (config : Config) (limits : Limits) (given next : Given) (rest : List ℕ) (asked : List Ask) → Begins config limits given next (Some paths.Feed) rest → asked ≡ asks.FeedBegins ∷ [] → ToFeed config limits given next [] rest asked
to_feed config limits given next rest asked b is = record {
  live = b.live;
  before = [];
  was = b.none;
  asks = is;
  phase = ap (phase_of config limits) (sym (append-nil next.bytes)) ∙ b.phase [] ∙ ap (λ z. Ok (Feeding z)) (append-nil rest);
}

pub cuts_nothing : (limit : ℕ) → Cuts limit [] (record { part = []; lines = 0 })
cuts_nothing limit = record { lines = refl; cut = λ more. refl }

-- ---- the next piece

pub next_live : (given : Given) (piece : List ℕ) → piece ≢ [] → given.ended ≡ false → ((given_next given piece).ended ≡ false) × ((given_next given piece).bytes ≡ given.bytes ++ piece)
next_live given [] some live = absurd (some refl)
next_live given (byte ∷ piece) some live = rw live (refl, refl)

next_same : (given : Given) (piece : List ℕ) → piece ≢ [] → given.ended ≡ true → given_next given piece ≡ given
next_same given [] some ended = absurd (some refl)
next_same given (byte ∷ piece) some ended = rw ended refl

pub next_to_feed : (config : Config) (limits : Limits) (given : Given) (feed : FeedPart) (piece : List ℕ) (asked : List Ask) → (f : Feeds config limits feed given) → piece ≢ [] → asked ≡ [] → ToFeed config limits given (given_next given piece) f.text piece asked
next_to_feed config limits given feed piece asked f some is =
    let next = next_live given piece some f.live in
    let lines = line_asks 0 (rows_so_far limits.line false f.text) in
    record {
      live = next.0;
      before = asks.FeedBegins ∷ (lines ++ []);
      was = asks_at config limits given false (Feeding f.text) f.live f.phase;
      asks = ap (λ z. (asks.FeedBegins ∷ (lines ++ [])) ++ z) is ∙ append-nil (asks.FeedBegins ∷ (lines ++ [])) ∙ ap (λ z. asks.FeedBegins ∷ z) (append-nil lines);
      phase = ap (phase_of config limits) next.1 ∙ feed_goes_on config limits given.bytes piece f.text f.phase;
    }

pub next_to_request : (config : Config) (limits : Limits) (given : Given) (method : Method) (frames : Held) (piece : List ℕ) → (a : Asks config limits method frames given) → piece ≢ [] → ToRequest config limits given (given_next given piece) method (a.rest ++ piece)
next_to_request config limits given method frames piece a some =
    let next = next_live given piece some a.live in
    record {
      none = asks_at config limits given false Asking a.live a.phase;
      live = next.0;
      asks = λ more.
          ap (λ z. phase_of config limits (z ++ more)) next.1 ∙ ap (phase_of config limits) (append_assoc given.bytes piece more) ∙ a.asks (piece ++ more)
          ∙ ap (λ z. asked_in config method (head_of limits.request z)) (sym (append_assoc a.rest piece more));
    }

next_extra : (config : Config) (limits : Limits) (bytes piece : List ℕ) (query : Query) → piece ≢ [] → phase_of config limits bytes ≡ Ok (Asked query) → phase_of config limits (bytes ++ piece) ≡ Err faults.Extra
next_extra config limits bytes [] query some h = absurd (some refl)
next_extra config limits bytes (byte ∷ piece) query some h = nothing_follows config limits bytes byte piece query h

pub asked_next : (config : Config) (limits : Limits) (given : Given) (piece : List ℕ) → HasAsked config limits given → piece ≢ [] → phase_of config limits (given_next given piece).bytes ≡ Err faults.Extra
asked_next config limits given piece a some =
    let next = next_live given piece some a.live in
    ap (phase_of config limits) next.1 ∙ next_extra config limits given.bytes piece a.query some a.phase

pub ended_same : (config : Config) (limits : Limits) (given : Given) (added : List Ask) → HasEnded config limits given → added ≡ [] → Goes config limits given given (record { asks = added; state = states.Ended })
ended_same config limits given added e is =
    let was = asks_at config limits given true e.last e.ended e.phase in
    let before = asks_in limits.line true e.last in
    record { adds = record { before = before; was = was; now = was ∙ ap Ok (sym (append-nil before) ∙ ap (λ z. before ++ z) (sym is)) }; keeps = e }

pub ended_next : (config : Config) (limits : Limits) (given : Given) (piece : List ℕ) (added : List Ask) → HasEnded config limits given → piece ≢ [] → added ≡ [] → Goes config limits given (given_next given piece) (record { asks = added; state = states.Ended })
ended_next config limits given piece added e some is = rw (next_same given piece some e.ended) (ended_same config limits given added e is)

fault_on : (config : Config) (limits : Limits) (given : Given) (piece : List ℕ) (ended : Bool) (fault : SessionFault) → given.ended ≡ ended → piece ≢ [] → phase_of config limits given.bytes ≡ Err fault → phase_of config limits (given_next given piece).bytes ≡ Err fault
fault_on config limits given piece true fault is some h = rw (next_same given piece some is) h
fault_on config limits given piece false fault is some h = ap (phase_of config limits) (next_live given piece some is).1 ∙ fault_stays config limits given.bytes piece fault h

pub fault_next : (config : Config) (limits : Limits) (given : Given) (piece : List ℕ) (fault : SessionFault) → piece ≢ [] → IsFault fault (phase_of config limits given.bytes) → IsFault fault (phase_of config limits (given_next given piece).bytes)
fault_next config limits given piece faults.Memory some h = tt
fault_next config limits given piece faults.BadPath some h = fault_on config limits given piece given.ended faults.BadPath refl some h
fault_next config limits given piece (faults.Proto fault) some h = fault_on config limits given piece given.ended (faults.Proto fault) refl some h
fault_next config limits given piece faults.Extra some h = fault_on config limits given piece given.ended faults.Extra refl some h

-- ---- the end

abbrev pub ending : Given → Given
ending given = record given { ended = true }

pub end_goes : (config : Config) (limits : Limits) (given : Given) (phase : Phase) (added : List Ask) → given.ended ≡ false → phase_of config limits given.bytes ≡ Ok phase → asks_in limits.line true phase ≡ asks_in limits.line false phase ++ added → Goes config limits given (ending given) (record { asks = added; state = states.Ended })
end_goes config limits given phase added live is asked = record {
  adds = record { before = asks_in limits.line false phase; was = asks_at config limits given false phase live is; now = asks_at config limits (ending given) true phase refl is ∙ ap Ok asked };
  keeps = record { ended = refl; last = phase; phase = is };
}

pub feed_ends : (config : Config) (limits : Limits) (given : Given) (feed : FeedPart) (added : List Ask) → Feeds config limits feed given → added ≡ line_asks feed.lines (rows_of limits.line feed.part) ++ asks.Ended ∷ [] → Goes config limits given (ending given) (record { asks = added; state = states.Ended })
feed_ends config limits given feed added f is =
    let limit = limits.line in
    let before = rows_so_far limit false f.text in
    let last = line_asks feed.lines (rows_of limit feed.part) in
    let rows : rows_of limit f.text ≡ before ++ rows_of limit feed.part = ap (rows_of limit) (sym (append-nil f.text)) ∙ f.cuts.cut [] ∙ ap (λ z. before ++ rows_of limit z) (append-nil feed.part) in
    let number : feed.lines ≡ 0 + length before = omega (arith, f.cuts.lines) in
    let lines : line_asks 0 (rows_of limit f.text) ≡ line_asks 0 before ++ last = ap (line_asks 0) rows ∙ line_asks-on 0 feed.lines before (rows_of limit feed.part) number in
    let all : line_asks 0 (rows_of limit f.text) ++ asks.Ended ∷ [] ≡ (line_asks 0 before ++ []) ++ added =
    ap (λ z. z ++ asks.Ended ∷ []) lines ∙ append_assoc (line_asks 0 before) last (asks.Ended ∷ []) ∙ ap (λ z. line_asks 0 before ++ z) (sym is) ∙ ap (λ z. z ++ added) (sym (append-nil (line_asks 0 before))) in
    end_goes config limits given (Feeding f.text) added f.live f.phase (ap (λ z. asks.FeedBegins ∷ z) all)

pub ended_end : (config : Config) (limits : Limits) (given : Given) (added : List Ask) → HasEnded config limits given → added ≡ [] → Goes config limits given (ending given) (record { asks = added; state = states.Ended })
ended_end config limits given added e is =
    let was = asks_at config limits given true e.last e.ended e.phase in
    let before = asks_in limits.line true e.last in
    record { adds = record { before = before; was = was; now = asks_at config limits (ending given) true e.last refl e.phase ∙ ap Ok (sym (append-nil before) ∙ ap (λ z. before ++ z) (sym is)) }; keeps = record { ended = refl; last = e.last; phase = e.phase } }
