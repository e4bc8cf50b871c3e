-- The texts of refusals and verdicts have no LF where their paths and names have none.
use Rattle.std.proofs.Common.{◌≡◌, ℕ, zero, suc, ◌/◌, ◌%◌, ◌<◌, Bool, true, false, cond, List, [], ◌∷◌, ◌++◌, refl, arith, Some}
use Rattle.std.specs.Prelude.{◌==◌, codes}
use Rattle.std.specs.Fmt.{decimal, digit_glyph, digits, digits_onto}
use Rattle.std.proofs.lemmas.Bool.Decides.{nat_tests}
use Rattle.k8s_meta.specs.FaultText.{read_fault_text, what_text}
use Rattle.k8s_meta.specs.declared.fault.ReadFault.{ReadFault}
use Rattle.k8s_meta.specs.declared.fault.ReadFault.TheVariants as reads
use Rattle.k8s_meta.specs.declared.fault.What.{What}
use Rattle.k8s_meta.specs.declared.fault.What.TheVariants as whats
use Rattle.request_sim.specs.declared.fault.SimFault.TheVariants as sim
use Rattle.view_types.specs.declared.policy.Policy.{Policy}
use Rattle.view_types.specs.declared.policy.Policy.TheVariants.{AllUnauthenticated, AllAuthenticated, ClusterUnauthenticated, ClusterAuthenticated, Deny, Audit}
use Rattle.view_types.specs.declared.server_view.AuthzKind.{AuthzKind}
use Rattle.view_types.specs.declared.server_view.AuthzKind.TheVariants.{ServerAuthorization, AuthorizationPolicy}
use Rattle.view_types.specs.declared.verdict.Decider.{Decider}
use Rattle.view_types.specs.declared.verdict.Decider.TheVariants.{Authz, Default, Probe}
use Rattle.view_types.specs.declared.verdict.Verdict.{Verdict}
use Rattle.view_types.specs.declared.verdict.Verdict.TheVariants.{Allowed, Denied, NotFound, NoWorkload}
use Rattle.watch_events.specs.FaultText.{line_fault_text}
use Rattle.watch_events.specs.declared.line.LineFault.{LineFault}
use Rattle.watch_events.specs.declared.line.LineFault.TheVariants as faults
use Rattle.feed_history.specs.RefusalText.{hub_fault_text, refusal_text}
use Rattle.feed_history.specs.VerdictText.{decider_text, kind_text, policy_text, verdict_text}
use Rattle.feed_history.specs.declared.refusal.HubFault.{HubFault}
use Rattle.feed_history.specs.declared.refusal.HubFault.TheVariants as hub
use Rattle.feed_history.specs.declared.refusal.Refusal.{Refusal}
use Rattle.feed_history.specs.declared.refusal.Refusal.TheVariants as refusals
use Rattle.output_laws.proofs.PlainFaults.{HasPlainFault, HasPlainPath, IsPlainFault}
use Rattle.output_laws.proofs.PlainNames.{HasPlainNames, IsPlainVerdict}
use Rattle.output_laws.proofs.Without.{Without, looked_through, without_both, without_break}

abbrev Plain : List ℕ → Type 0
Plain text = Without 10 text

-- ---- numbers, however great

glyph : (d : ℕ) → d < 10 → (digit_glyph false d == 10) ≡ false
glyph d small = grind (arith, nat_tests, small)

remainder : (n : ℕ) → n % 10 < 10
remainder n = omega arith

digits_plain : (k n : ℕ) (acc : List ℕ) → Plain acc → Plain (digits_onto k 10 false n acc)
digits_plain zero n acc plain = plain
digits_plain (suc k) n acc plain = by_last (n / 10 == 0) (digits_plain k (n / 10) (digit_glyph false (n % 10) ∷ acc) (glyph (n % 10) (remainder n), plain))
  where
    by_last : (b : Bool) → Plain (digits_onto k 10 false (n / 10) (digit_glyph false (n % 10) ∷ acc)) → Plain (cond b (digit_glyph false (n % 10) ∷ acc) (digits_onto k 10 false (n / 10) (digit_glyph false (n % 10) ∷ acc)))
    by_last true more = (glyph (n % 10) (remainder n), plain)
    by_last false more = more

pub number_plain : (n : ℕ) → Plain (decimal n)
unfolding digits
number_plain n = digits_plain 64 n [] tt

-- ---- refusals

-- a word, and a text behind it
worded : (word text : List ℕ) → Plain word → Plain text → Plain (word ++ text)
worded = without_both 10

what_plain : (what : What) → Plain (what_text what)
what_plain whats.Address = looked_through 10 (codes "Address") refl
what_plain whats.Network = looked_through 10 (codes "Network") refl
what_plain whats.Range = looked_through 10 (codes "Range") refl
what_plain whats.Choice = looked_through 10 (codes "Choice") refl
what_plain whats.Duration = looked_through 10 (codes "Duration") refl
what_plain whats.Quantity = looked_through 10 (codes "Quantity") refl
what_plain whats.Method = looked_through 10 (codes "Method") refl
what_plain whats.Shape = looked_through 10 (codes "Shape") refl
what_plain whats.TwoReferences = looked_through 10 (codes "TwoReferences") refl

read_plain : (fault : ReadFault) → HasPlainPath fault → Plain (read_fault_text fault)
read_plain reads.Memory plain = tt
read_plain (reads.Missing path) plain = worded (codes "Missing ") path (looked_through 10 (codes "Missing ") refl) (without_break path plain)
read_plain (reads.WrongType path) plain = worded (codes "WrongType ") path (looked_through 10 (codes "WrongType ") refl) (without_break path plain)
read_plain (reads.BadName path) plain = worded (codes "BadName ") path (looked_through 10 (codes "BadName ") refl) (without_break path plain)
read_plain (reads.BadValue path what) plain =
    worded (codes "BadValue ") (path ++ (codes " " ++ what_text what)) (looked_through 10 (codes "BadValue ") refl)
    (worded path (codes " " ++ what_text what) (without_break path plain) (worded (codes " ") (what_text what) (looked_through 10 (codes " ") refl) (what_plain what)))

line_plain : (fault : LineFault) → IsPlainFault fault → Plain (line_fault_text fault)
line_plain faults.Memory plain = tt
line_plain faults.TooLong plain = looked_through 10 (codes "TooLong") refl
line_plain faults.NotJson plain = looked_through 10 (codes "NotJson") refl
line_plain faults.NoForm plain = looked_through 10 (codes "NoForm") refl
line_plain faults.UnknownType plain = looked_through 10 (codes "UnknownType") refl
line_plain faults.ErrorEvent plain = looked_through 10 (codes "ErrorEvent") refl
line_plain faults.UnknownKind plain = looked_through 10 (codes "UnknownKind") refl
line_plain (faults.Object fault) plain = read_plain fault plain
line_plain (faults.RepeatedItem place) plain = worded (codes "RepeatedItem ") (decimal place) (looked_through 10 (codes "RepeatedItem ") refl) (number_plain place)
line_plain (faults.BadQuery path) plain = worded (codes "BadQuery ") path (looked_through 10 (codes "BadQuery ") refl) (without_break path plain)

hub_plain : (fault : HubFault) → Plain (hub_fault_text fault)
hub_plain hub.Memory = tt
hub_plain (hub.Full held) = worded (codes "Full ") (decimal held) (looked_through 10 (codes "Full ") refl) (number_plain held)
hub_plain (hub.TooManySubs live) = worded (codes "TooManySubs ") (decimal live) (looked_through 10 (codes "TooManySubs ") refl) (number_plain live)
hub_plain (hub.IdOrder last) = worded (codes "IdOrder ") (decimal last) (looked_through 10 (codes "IdOrder ") refl) (number_plain last)
hub_plain (hub.NoSuchId id) = worded (codes "NoSuchId ") (decimal id) (looked_through 10 (codes "NoSuchId ") refl) (number_plain id)
hub_plain (hub.Oversize bytes) = tt

pub plain_refusal : (refusal : Refusal) → HasPlainFault (Some refusal) → Plain (refusal_text refusal)
plain_refusal (refusals.Line fault) plain = line_plain fault plain
plain_refusal (refusals.Hub fault) plain = hub_plain fault
plain_refusal refusals.NotHere plain = looked_through 10 (codes "NotHere") refl
plain_refusal refusals.Reserved plain = looked_through 10 (codes "Reserved") refl
plain_refusal (refusals.Profile place) plain = worded (codes "Pattern profile ") (decimal place) (looked_through 10 (codes "Pattern profile ") refl) (number_plain place)
plain_refusal (refusals.Sim sim.Memory) plain = tt
plain_refusal (refusals.Sim (sim.Pattern route rule item)) plain =
    worded (codes "Pattern ") (route ++ (codes " " ++ (decimal rule ++ (codes " " ++ decimal item)))) (looked_through 10 (codes "Pattern ") refl)
    (worded route (codes " " ++ (decimal rule ++ (codes " " ++ decimal item))) (without_break route plain)
    (worded (codes " ") (decimal rule ++ (codes " " ++ decimal item)) (looked_through 10 (codes " ") refl)
    (worded (decimal rule) (codes " " ++ decimal item) (number_plain rule) (worded (codes " ") (decimal item) (looked_through 10 (codes " ") refl) (number_plain item)))))

-- ---- verdicts

policy_plain : (policy : Policy) → Plain (policy_text policy)
policy_plain AllUnauthenticated = looked_through 10 (codes "all-unauthenticated") refl
policy_plain AllAuthenticated = looked_through 10 (codes "all-authenticated") refl
policy_plain ClusterUnauthenticated = looked_through 10 (codes "cluster-unauthenticated") refl
policy_plain ClusterAuthenticated = looked_through 10 (codes "cluster-authenticated") refl
policy_plain Deny = looked_through 10 (codes "deny") refl
policy_plain Audit = looked_through 10 (codes "audit") refl

kind_plain : (kind : AuthzKind) → Plain (kind_text kind)
kind_plain ServerAuthorization = looked_through 10 (codes "ServerAuthorization") refl
kind_plain AuthorizationPolicy = looked_through 10 (codes "AuthorizationPolicy") refl

decider_plain : (ns : List ℕ) (decider : Decider) → HasPlainNames ns decider → Plain (decider_text ns decider)
decider_plain ns (Authz kind name) plain =
    worded (kind_text kind) (codes " " ++ (ns ++ (codes "/" ++ name))) (kind_plain kind)
    (worded (codes " ") (ns ++ (codes "/" ++ name)) (looked_through 10 (codes " ") refl)
    (worded ns (codes "/" ++ name) (without_break ns plain.0) (worded (codes "/") name (looked_through 10 (codes "/") refl) (without_break name plain.1))))
decider_plain ns (Probe place) plain = worded (codes "probe ") (decimal place) (looked_through 10 (codes "probe ") refl) (number_plain place)
decider_plain ns (Default policy) plain = worded (codes "default ") (policy_text policy) (looked_through 10 (codes "default ") refl) (policy_plain policy)

pub plain_verdict : (ns : List ℕ) (found : Verdict) → IsPlainVerdict ns found → Plain (verdict_text ns found)
plain_verdict ns (Allowed decider) plain = worded (codes "allowed ") (decider_text ns decider) (looked_through 10 (codes "allowed ") refl) (decider_plain ns decider plain)
plain_verdict ns (Denied decider) plain = worded (codes "denied ") (decider_text ns decider) (looked_through 10 (codes "denied ") refl) (decider_plain ns decider plain)
plain_verdict ns NotFound plain = looked_through 10 (codes "not-found") refl
plain_verdict ns NoWorkload plain = looked_through 10 (codes "no-workload") refl
