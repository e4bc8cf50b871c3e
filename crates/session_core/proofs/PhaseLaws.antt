-- What more bytes make of a link.
use Rattle.std.proofs.Common.{◌≡◌, ℕ, ◌≤◌, ◌<◌, ◌==◌, ◌+◌, Bool, true, false, List, [], ◌∷◌, ◌++◌, length, length-append, nat_lt, Option, Some, None, Result, Ok, Err, refl, sym, ap, subst, ◌∙◌, arith}
use Rattle.std.specs.Prelude.{bytes_eq, codes, is_ok, option_map}
use Rattle.std.proofs.lemmas.Bool.Decides.{nat_tests}
use Rattle.std.proofs.lemmas.Slice.Eq.{bytes_eq-Decides}
use Rattle.mesh_base.specs.declared.limits.Limits.{Limits}
use Rattle.proto_wire.specs.Frames.{head_of}
use Rattle.proto_wire.specs.declared.fault.WireFault.{WireFault}
use Rattle.proto_wire.proofs.Heads.{whole_more, head_fault_more}
use Rattle.proxy_proto.specs.RequestReading.{request_of}
use Rattle.proxy_proto.specs.declared.fault.ProtoFault.{ProtoFault}
use Rattle.view_types.specs.declared.config.Config.{Config}
use Rattle.view_types.specs.declared.query.Method.{Method}
use Rattle.view_types.specs.declared.query.Query.{Query}
use Rattle.session_core.specs.Laws.{FaultStays, FeedGoesOn, NothingFollows}
use Rattle.session_core.specs.Paths.{first_line, onto_line, path_of}
use Rattle.session_core.specs.Phases.{Phase, Opening, Feeding, Asking, Asked, path_bound, asked_before, asked_in, phase_behind, phase_at, phase_of, is_feeding, query_in}
use Rattle.session_core.specs.declared.session.Path.{Path}
use Rattle.session_core.specs.declared.session.Path.TheVariants.{Feed, Asks}
use Rattle.session_core.specs.declared.session.SessionFault.{SessionFault}
use Rattle.session_core.specs.declared.session.SessionFault.TheVariants.{Extra, BadPath}

by_test : (b : Bool) (Goal : Type 0) → (b ≡ true → Goal) → (b ≡ false → Goal) → Goal
by_test true Goal f g = f refl
by_test false Goal f g = g refl

-- ---- the first line

abbrev pub IsMore : List ℕ → Option (List ℕ × List ℕ) → Option (List ℕ × List ℕ) → Type 0
IsMore more None found = Unit {0}
IsMore more (Some cut) found = found ≡ Some (cut.0, cut.1 ++ more)

onto_more : (byte : ℕ) (more : List ℕ) (x y : Option (List ℕ × List ℕ)) → IsMore more x y → IsMore more (option_map (onto_line byte) x) (option_map (onto_line byte) y)
onto_more byte more None y h = tt
onto_more byte more (Some cut) y h = rw h refl

-- more bytes leave the first line as it is
pub first_more : (bytes more : List ℕ) → IsMore more (first_line bytes) (first_line (bytes ++ more))
first_more [] more = tt
first_more (byte ∷ bytes) more =
    by_test (byte == 10) (IsMore more (first_line (byte ∷ bytes)) (first_line (byte ∷ (bytes ++ more))))
    (λ e. rw e refl)
    (λ e. rw e (onto_more byte more (first_line bytes) (first_line (bytes ++ more)) (first_more bytes more)))

abbrev IsLong : ℕ → Option (List ℕ × List ℕ) → Type 0
IsLong n None = Unit {0}
IsLong n (Some cut) = n ≤ length cut.0

onto_long : (byte n : ℕ) (x : Option (List ℕ × List ℕ)) → IsLong n x → IsLong (n + 1) (option_map (onto_line byte) x)
onto_long byte n None h = tt
onto_long byte n (Some cut) h = omega arith

-- ---- what can't be

some_none : (cut : List ℕ × List ℕ) → Some cut ≡ None → ⊥
some_none cut h = cc

opening_fault : (fault : SessionFault) → Ok Opening ≡ Err fault → ⊥
opening_fault fault h = cc

opening_feed : (text : List ℕ) → (let phase : Result Phase SessionFault = Ok Opening in phase) ≡ Ok (Feeding text) → ⊥
opening_feed text h = cc

opening_query : (query : Query) → (let phase : Result Phase SessionFault = Ok Opening in phase) ≡ Ok (Asked query) → ⊥
opening_query query h = cc

bad_feed : (text : List ℕ) → Err BadPath ≡ Ok (Feeding text) → ⊥
bad_feed text h = cc

bad_query : (query : Query) → Err BadPath ≡ Ok (Asked query) → ⊥
bad_query query h = cc

feed_no_feed : (text : List ℕ) → is_feeding (Ok (Feeding text)) ≡ false → ⊥
feed_no_feed text h = cc

same_text : (rest text : List ℕ) → (let phase : Result Phase SessionFault = Ok (Feeding rest) in phase) ≡ Ok (Feeding text) → rest ≡ text
same_text rest text h = cc

first_break : (byte : ℕ) (bytes : List ℕ) → (byte == 10) ≡ true → first_line (byte ∷ bytes) ≡ Some ([], bytes)
first_break byte bytes e = rw e refl

first_other : (byte : ℕ) (bytes : List ℕ) → (byte == 10) ≡ false → first_line (byte ∷ bytes) ≡ option_map (onto_line byte) (first_line bytes)
first_other byte bytes e = rw e refl

onto_none : (byte : ℕ) (x : Option (List ℕ × List ℕ)) → option_map (onto_line byte) x ≡ None → x ≡ None
onto_none byte None h = refl
onto_none byte (Some cut) h = absurd cc

empty_long : (x : Option (List ℕ × List ℕ)) → IsLong 0 x
empty_long None = tt
empty_long (Some cut) = omega arith

pub opening_at : (config : Config) (limits : Limits) (bytes : List ℕ) → nat_lt (length bytes) path_bound ≡ true → phase_at config limits bytes None ≡ Ok Opening
opening_at config limits bytes e = rw e refl

pub bad_at : (config : Config) (limits : Limits) (bytes : List ℕ) → nat_lt (length bytes) path_bound ≡ false → phase_at config limits bytes None ≡ Err BadPath
bad_at config limits bytes e = rw e refl

-- ---- where the first line isn't whole

-- without an LF among them, the bytes all stand in the first line
first_long : (bytes more : List ℕ) → first_line bytes ≡ None → IsLong (length bytes) (first_line (bytes ++ more))
first_long [] more h = empty_long (first_line more)
first_long (byte ∷ bytes) more h =
    by_test (byte == 10) (IsLong (length (byte ∷ bytes)) (first_line (byte ∷ (bytes ++ more))))
    (λ e. absurd (some_none ([], bytes) (sym (first_break byte bytes e) ∙ h)))
    (λ e.
    let none : first_line bytes ≡ None = onto_none byte (first_line bytes) (sym (first_other byte bytes e) ∙ h) in
    let long : IsLong (length bytes + 1) (option_map (onto_line byte) (first_line (bytes ++ more))) = onto_long byte (length bytes) (first_line (bytes ++ more)) (first_long bytes more none) in
    subst (λ x. IsLong (length (byte ∷ bytes)) x) (sym (first_other byte (bytes ++ more) e)) (subst (λ n. IsLong n (option_map (onto_line byte) (first_line (bytes ++ more)))) (omega arith) long))

-- ---- paths

is_short : (line path : List ℕ) → nat_lt (length path) path_bound ≡ true → path_bound ≤ length line → bytes_eq line path ≡ false
is_short line path short long =
    by_test (bytes_eq line path) (bytes_eq line path ≡ false)
    (λ e.
    let same : length line ≡ length path = ap length ((bytes_eq-Decides line path).0 e) in
    let less : length path < path_bound = grind (arith, nat_tests) in
    absurd (omega arith))
    (λ e. e)

no_path : (line : List ℕ) → path_bound ≤ length line → path_of line ≡ None
unfolding path_of
no_path line long =
    rw (
      is_short line (codes "/feed") refl long,
      is_short line (codes "/io.linkerd.proxy.destination.Destination/Get") refl long,
      is_short line (codes "/io.linkerd.proxy.destination.Destination/GetProfile") refl long,
      is_short line (codes "/io.linkerd.proxy.inbound.InboundServerPolicies/WatchPort") refl long,
      is_short line (codes "/io.linkerd.proxy.outbound.OutboundPolicies/Watch") refl long,
      is_short line (codes "/io.linkerd.proxy.inbound.InboundServerPolicies/WatchPort2") refl long,
    ) refl

-- ---- a request

before_fault : (read : Result Query ProtoFault) (after more : List ℕ) (fault : SessionFault) → asked_before read after ≡ Err fault → asked_before read (after ++ more) ≡ Err fault
before_fault (Err e) after more fault h = h
before_fault (Ok query) [] more fault h = absurd cc
before_fault (Ok query) (byte ∷ after) more fault h = h

asked_fault : (config : Config) (limits : Limits) (method : Method) (rest more : List ℕ) (fault : SessionFault) (head : Result (Option (List ℕ × List ℕ)) WireFault) → head_of limits.request rest ≡ head → asked_in config method head ≡ Err fault → asked_in config method (head_of limits.request (rest ++ more)) ≡ Err fault
asked_fault config limits method rest more fault (Err e) is h = rw (head_fault_more limits.request rest more e is) h
asked_fault config limits method rest more fault (Ok None) is h = absurd cc
asked_fault config limits method rest more fault (Ok (Some (message, after))) is h = rw (whole_more limits.request rest more message after is) (before_fault (request_of config method message) after more fault h)

before_query : (read : Result Query ProtoFault) (after : List ℕ) (byte : ℕ) (more : List ℕ) (query : Query) → asked_before read after ≡ Ok (Asked query) → asked_before read (after ++ byte ∷ more) ≡ Err Extra
before_query (Err e) after byte more query h = absurd cc
before_query (Ok found) [] byte more query h = refl
before_query (Ok found) (other ∷ after) byte more query h = absurd cc

asked_query : (config : Config) (limits : Limits) (method : Method) (rest : List ℕ) (byte : ℕ) (more : List ℕ) (query : Query) (head : Result (Option (List ℕ × List ℕ)) WireFault) → head_of limits.request rest ≡ head → asked_in config method head ≡ Ok (Asked query) → asked_in config method (head_of limits.request (rest ++ byte ∷ more)) ≡ Err Extra
asked_query config limits method rest byte more query (Err e) is h = absurd cc
asked_query config limits method rest byte more query (Ok None) is h = absurd cc
asked_query config limits method rest byte more query (Ok (Some (message, after))) is h = rw (whole_more limits.request rest (byte ∷ more) message after is) (before_query (request_of config method message) after byte more query h)

-- what was read of a request isn't a feed
before_no_feed : (read : Result Query ProtoFault) (after text : List ℕ) → asked_before read after ≡ Ok (Feeding text) → ⊥
before_no_feed (Err e) after text h = absurd cc
before_no_feed (Ok found) [] text h = absurd cc
before_no_feed (Ok found) (byte ∷ after) text h = absurd cc

asked_no_feed : (config : Config) (method : Method) (head : Result (Option (List ℕ × List ℕ)) WireFault) (text : List ℕ) → asked_in config method head ≡ Ok (Feeding text) → ⊥
asked_no_feed config method (Err e) text h = absurd cc
asked_no_feed config method (Ok None) text h = absurd cc
asked_no_feed config method (Ok (Some (message, after))) text h = before_no_feed (request_of config method message) after text h

-- ---- behind a path

behind_fault : (config : Config) (limits : Limits) (path : Option Path) (rest more : List ℕ) (fault : SessionFault) → phase_behind config limits path rest ≡ Err fault → phase_behind config limits path (rest ++ more) ≡ Err fault
behind_fault config limits None rest more fault h = h
behind_fault config limits (Some Feed) rest more fault h = absurd cc
behind_fault config limits (Some (Asks method)) rest more fault h = asked_fault config limits method rest more fault (head_of limits.request rest) refl h

behind_feed : (config : Config) (limits : Limits) (path : Option Path) (rest more text : List ℕ) → phase_behind config limits path rest ≡ Ok (Feeding text) → phase_behind config limits path (rest ++ more) ≡ Ok (Feeding (text ++ more))
behind_feed config limits None rest more text h = absurd cc
behind_feed config limits (Some Feed) rest more text h = ap (λ t. Ok (Feeding (t ++ more))) (same_text rest text h)
behind_feed config limits (Some (Asks method)) rest more text h = absurd (asked_no_feed config method (head_of limits.request rest) text h)

behind_query : (config : Config) (limits : Limits) (path : Option Path) (rest : List ℕ) (byte : ℕ) (more : List ℕ) (query : Query) → phase_behind config limits path rest ≡ Ok (Asked query) → phase_behind config limits path (rest ++ byte ∷ more) ≡ Err Extra
behind_query config limits None rest byte more query h = absurd cc
behind_query config limits (Some Feed) rest byte more query h = absurd cc
behind_query config limits (Some (Asks method)) rest byte more query h = asked_query config limits method rest byte more query (head_of limits.request rest) refl h

-- ---- all bytes

-- where the path line isn't whole, it has all the bytes, or they are too many for a path
part_fault : (config : Config) (limits : Limits) (bytes more : List ℕ) (cut : Option (List ℕ × List ℕ)) → path_bound ≤ length bytes → IsLong (length bytes) cut → nat_lt (length (bytes ++ more)) path_bound ≡ false → phase_at config limits (bytes ++ more) cut ≡ Err BadPath
part_fault config limits bytes more None many long few = rw few refl
part_fault config limits bytes more (Some (line, rest)) many long few =
    let wide : path_bound ≤ length line = omega arith in
    rw (no_path line wide) refl

at_fault : (config : Config) (limits : Limits) (bytes more : List ℕ) (cut : Option (List ℕ × List ℕ)) (fault : SessionFault) → first_line bytes ≡ cut → phase_at config limits bytes cut ≡ Err fault → phase_at config limits (bytes ++ more) (first_line (bytes ++ more)) ≡ Err fault
at_fault config limits bytes more None fault is h =
    by_test (nat_lt (length bytes) path_bound) (phase_at config limits (bytes ++ more) (first_line (bytes ++ more)) ≡ Err fault)
    (λ e. absurd (opening_fault fault (sym (opening_at config limits bytes e) ∙ h)))
    (λ e.
    let many : path_bound ≤ length bytes = grind (arith, nat_tests) in
    let all : length (bytes ++ more) ≡ length bytes + length more = length-append bytes more in
    let few : nat_lt (length (bytes ++ more)) path_bound ≡ false = grind (arith, nat_tests) in
    part_fault config limits bytes more (first_line (bytes ++ more)) many (first_long bytes more is) few ∙ sym (bad_at config limits bytes e) ∙ h)
at_fault config limits bytes more (Some (line, rest)) fault is h =
    let there : first_line (bytes ++ more) ≡ Some (line, rest ++ more) = subst (λ x. IsMore more x (first_line (bytes ++ more))) is (first_more bytes more) in
    rw there (behind_fault config limits (path_of line) rest more fault h)

at_feed : (config : Config) (limits : Limits) (bytes more text : List ℕ) (cut : Option (List ℕ × List ℕ)) → first_line bytes ≡ cut → phase_at config limits bytes cut ≡ Ok (Feeding text) → phase_at config limits (bytes ++ more) (first_line (bytes ++ more)) ≡ Ok (Feeding (text ++ more))
at_feed config limits bytes more text None is h =
    by_test (nat_lt (length bytes) path_bound) (phase_at config limits (bytes ++ more) (first_line (bytes ++ more)) ≡ Ok (Feeding (text ++ more)))
    (λ e. absurd (opening_feed text (sym (opening_at config limits bytes e) ∙ h)))
    (λ e. absurd (bad_feed text (sym (bad_at config limits bytes e) ∙ h)))
at_feed config limits bytes more text (Some (line, rest)) is h =
    let there : first_line (bytes ++ more) ≡ Some (line, rest ++ more) = subst (λ x. IsMore more x (first_line (bytes ++ more))) is (first_more bytes more) in
    rw there (behind_feed config limits (path_of line) rest more text h)

at_query : (config : Config) (limits : Limits) (bytes : List ℕ) (byte : ℕ) (more : List ℕ) (query : Query) (cut : Option (List ℕ × List ℕ)) → first_line bytes ≡ cut → phase_at config limits bytes cut ≡ Ok (Asked query) → phase_at config limits (bytes ++ byte ∷ more) (first_line (bytes ++ byte ∷ more)) ≡ Err Extra
at_query config limits bytes byte more query None is h =
    by_test (nat_lt (length bytes) path_bound) (phase_at config limits (bytes ++ byte ∷ more) (first_line (bytes ++ byte ∷ more)) ≡ Err Extra)
    (λ e. absurd (opening_query query (sym (opening_at config limits bytes e) ∙ h)))
    (λ e. absurd (bad_query query (sym (bad_at config limits bytes e) ∙ h)))
at_query config limits bytes byte more query (Some (line, rest)) is h =
    let there : first_line (bytes ++ byte ∷ more) ≡ Some (line, rest ++ byte ∷ more) = subst (λ x. IsMore (byte ∷ more) x (first_line (bytes ++ byte ∷ more))) is (first_more bytes (byte ∷ more)) in
    rw there (behind_query config limits (path_of line) rest byte more query h)

pub fault_stays : FaultStays
unfolding phase_of
fault_stays config limits bytes more fault h = at_fault config limits bytes more (first_line bytes) fault refl h

pub feed_goes_on : FeedGoesOn
unfolding phase_of
feed_goes_on config limits bytes more text h = at_feed config limits bytes more text (first_line bytes) refl h

pub nothing_follows : NothingFollows
unfolding phase_of
nothing_follows config limits bytes byte more query h = at_query config limits bytes byte more query (first_line bytes) refl h

-- ---- what is seen of it

no_feed_by : (config : Config) (limits : Limits) (bytes more : List ℕ) (phase : Result Phase SessionFault) → phase_of config limits bytes ≡ phase → is_feeding (phase_of config limits (bytes ++ more)) ≡ false → is_feeding phase ≡ false
no_feed_by config limits bytes more (Ok Opening) is h = refl
no_feed_by config limits bytes more (Ok (Feeding text)) is h = absurd (feed_no_feed (text ++ more) (sym (ap is_feeding (feed_goes_on config limits bytes more text is)) ∙ h))
no_feed_by config limits bytes more (Ok Asking) is h = refl
no_feed_by config limits bytes more (Ok (Asked query)) is h = refl
no_feed_by config limits bytes more (Err fault) is h = refl

-- a link that isn't a feed wasn't one before
pub no_feed_yet : (config : Config) (limits : Limits) (bytes more : List ℕ) → is_feeding (phase_of config limits (bytes ++ more)) ≡ false → is_feeding (phase_of config limits bytes) ≡ false
no_feed_yet config limits bytes more h = no_feed_by config limits bytes more (phase_of config limits bytes) refl h

is_asked : (phase : Result Phase SessionFault) (query : Query) → query_in phase ≡ Some query → phase ≡ Ok (Asked query)
is_asked (Ok Opening) query h = absurd cc
is_asked (Ok (Feeding text)) query h = absurd cc
is_asked (Ok Asking) query h = absurd cc
is_asked (Ok (Asked found)) query h = let same : found ≡ query = cc in ap (λ q. Ok (Asked q)) same
is_asked (Err fault) query h = absurd cc

-- a link with a request goes on no further
pub asked_once : (config : Config) (limits : Limits) (bytes : List ℕ) (byte : ℕ) (more : List ℕ) (query : Query) → query_in (phase_of config limits bytes) ≡ Some query → is_ok (phase_of config limits (bytes ++ byte ∷ more)) ≡ false
asked_once config limits bytes byte more query h = ap is_ok (nothing_follows config limits bytes byte more query (is_asked (phase_of config limits bytes) query h))
