-- The status codes of response matches that were read are below 2 ^ 16.
use Rattle.std.proofs.Common.{◌≡◌, ◌≤◌, ℕ, ◌&&◌, nat_le, nat_lt, Bool, true, false, List, Option, Some, None, Ok, Err, option_to_list, if◌then◌else◌, sym, ap, ◌∙◌, subst, arith}
use Rattle.std.proofs.lemmas.Bool.Decides.{nat_tests}
use Rattle.std.specs.List.{AllByRecursion}
use Rattle.k8s_meta.specs.Given.{GivesOnly}
use Rattle.k8s_meta.specs.Scalars.{number}
use Rattle.k8s_meta.specs.declared.fault.ReadFault.{ReadFault}
use Rattle.k8s_meta.proofs.Given.{after, default_gives, last, optional_gives, same_value}
use Rattle.k8s_meta.proofs.GivenLists.{IfThere}
use Rattle.k8s_meta.proofs.GivenNumbers.{number_gives}
use Rattle.view_types.specs.Lawful.{has_statuses, has_statuses_by}
use Rattle.view_types.specs.declared.profile.RespMatch.{RespMatch, fold-roll-RespMatch}
use Rattle.view_types.specs.declared.profile.RespMatch.TheOpen.{RespMatch-F}
use Rattle.view_types.specs.declared.profile.RespMatch.TheVariants as responses
use Rattle.view_types.specs.declared.profile.RespMatch.TheVariants.{rolls-Status, rolls-All, rolls-Any, rolls-Not}
use Rattle.profile_objects.specs.Responses.{response_match, response_members, responses_kind, status_at}
use Rattle.profile_objects.proofs.Kept.{each_is_true, match_gives}

abbrev pub HasStatuses : RespMatch → Type 0
HasStatuses found = has_statuses found ≡ true

abbrev HaveStatuses : List RespMatch → Type 0
HaveStatuses = AllByRecursion HasStatuses

abbrev IsCode : ℕ → Type 0
IsCode n = n ≤ 599

-- ---- each kind of match

small : (low high : ℕ) → IsCode low → IsCode high → (nat_lt low 65536 && nat_lt high 65536) ≡ true
small low high a b = grind (arith, nat_tests)

status_is : (low high : ℕ) → IsCode low → IsCode high → HasStatuses (responses.Status low high)
status_is low high a b = ap has_statuses (sym (rolls-Status low high)) ∙ fold-roll-RespMatch Bool has_statuses_by (RespMatch-F.Status low high) ∙ small low high a b

all_is : (parts : List RespMatch) → HaveStatuses parts → HasStatuses (responses.All parts)
all_is parts all = ap has_statuses (sym (rolls-All parts)) ∙ fold-roll-RespMatch Bool has_statuses_by (RespMatch-F.All parts) ∙ each_is_true has_statuses parts all

any_is : (parts : List RespMatch) → HaveStatuses parts → HasStatuses (responses.Any parts)
any_is parts all = ap has_statuses (sym (rolls-Any parts)) ∙ fold-roll-RespMatch Bool has_statuses_by (RespMatch-F.Any parts) ∙ each_is_true has_statuses parts all

not_is : (part : RespMatch) → HasStatuses part → HasStatuses (responses.Not part)
not_is part is = ap has_statuses (sym (rolls-Not part)) ∙ fold-roll-RespMatch Bool has_statuses_by (RespMatch-F.Not part) ∙ is

-- ---- what is read

in_order : (low high : ℕ) (fault : ReadFault) → IsCode low → IsCode high → (b : Bool) → (found : RespMatch) → (if b then Ok (responses.Status low high) else Err fault) ≡ Ok found → HasStatuses found
in_order low high fault a b true found e = subst HasStatuses (same_value (responses.Status low high) found e) (status_is low high a b)
in_order low high fault a b false found e = absurd cc

status_gives : GivesOnly HasStatuses status_at
unfolding status_at
status_gives s =
    let low_is = default_gives IsCode 100 (number 100 599) (omega arith) (number_gives 100 599) in
    let high_is = default_gives IsCode 599 (number 100 599) (omega arith) (number_gives 100 599) in
    after HasStatuses _ _ (λ o _. after HasStatuses _ _ (λ low lows. after HasStatuses _ _ (λ high highs. in_order low high _ (low_is _ low lows) (high_is _ high highs) (nat_le low high))))

one_is : (o : Option RespMatch) → IfThere HasStatuses o → HaveStatuses (option_to_list o)
one_is None is = tt
one_is (Some found) is = (is, tt)

own_gives : GivesOnly HaveStatuses response_members
unfolding response_members
own_gives s = after HaveStatuses _ _ (λ status is. last HaveStatuses _ (one_is status (optional_gives (IfThere HasStatuses) status_at tt status_gives _ status is)))

pub response_gives : GivesOnly HasStatuses response_match
response_gives = match_gives responses_kind HasStatuses (record { all = all_is; any = any_is; negated = not_is; own = own_gives })
