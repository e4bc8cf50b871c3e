-- The strings of request matches that were read are UTF-8.
use Rattle.std.proofs.Common.{◌≡◌, ℕ, Bool, true, List, sym, ap, ◌∙◌}
use Rattle.std.specs.List.{AllByRecursion}
use Rattle.std.specs.Str.{IsUtf8}
use Rattle.std.proofs.lemmas.Str.{is_utf8-from_IsUtf8}
use Rattle.k8s_meta.specs.Given.{GivesOnly}
use Rattle.k8s_meta.specs.Words.{text}
use Rattle.k8s_meta.proofs.Given.{after, last, optional_gives}
use Rattle.k8s_meta.proofs.GivenLists.{IfThere, all-append}
use Rattle.k8s_meta.proofs.GivenTexts.{text_gives}
use Rattle.mesh_text.specs.Methods.{method}
use Rattle.mesh_text.proofs.MethodTexts.{method_utf8}
use Rattle.view_types.specs.Lawful.{has_strings, has_strings_by}
use Rattle.view_types.specs.declared.profile.ReqMatch.{ReqMatch, fold-roll-ReqMatch}
use Rattle.view_types.specs.declared.profile.ReqMatch.TheOpen.{ReqMatch-F}
use Rattle.view_types.specs.declared.profile.ReqMatch.TheVariants as requests
use Rattle.view_types.specs.declared.profile.ReqMatch.TheVariants.{rolls-Method, rolls-Path, rolls-All, rolls-Any, rolls-Not}
use Rattle.profile_objects.specs.Requests.{request_match, request_members, requests_kind}
use Rattle.profile_objects.proofs.Kept.{all_of_some, each_is_true, match_gives}

abbrev pub HasStrings : ReqMatch → Type 0
HasStrings found = has_strings found ≡ true

abbrev HaveStrings : List ReqMatch → Type 0
HaveStrings = AllByRecursion HasStrings

-- ---- each kind of match

method_is : (name : List ℕ) → IsUtf8 name → HasStrings (requests.Method name)
method_is name is = ap has_strings (sym (rolls-Method name)) ∙ fold-roll-ReqMatch Bool has_strings_by (ReqMatch-F.Method name) ∙ is_utf8-from_IsUtf8 name is

path_is : (regex : List ℕ) → IsUtf8 regex → HasStrings (requests.Path regex)
path_is regex is = ap has_strings (sym (rolls-Path regex)) ∙ fold-roll-ReqMatch Bool has_strings_by (ReqMatch-F.Path regex) ∙ is_utf8-from_IsUtf8 regex is

all_is : (parts : List ReqMatch) → HaveStrings parts → HasStrings (requests.All parts)
all_is parts all = ap has_strings (sym (rolls-All parts)) ∙ fold-roll-ReqMatch Bool has_strings_by (ReqMatch-F.All parts) ∙ each_is_true has_strings parts all

any_is : (parts : List ReqMatch) → HaveStrings parts → HasStrings (requests.Any parts)
any_is parts all = ap has_strings (sym (rolls-Any parts)) ∙ fold-roll-ReqMatch Bool has_strings_by (ReqMatch-F.Any parts) ∙ each_is_true has_strings parts all

not_is : (part : ReqMatch) → HasStrings part → HasStrings (requests.Not part)
not_is part is = ap has_strings (sym (rolls-Not part)) ∙ fold-roll-ReqMatch Bool has_strings_by (ReqMatch-F.Not part) ∙ is

-- ---- what is read

own_gives : GivesOnly HaveStrings request_members
unfolding request_members
own_gives s =
    let methods = optional_gives (IfThere IsUtf8) method tt method_utf8 in
    let paths = optional_gives (IfThere IsUtf8) text tt text_gives in
    after HaveStrings _ _ (λ called is. after HaveStrings _ _ (λ path are.
    last HaveStrings _ (all-append HasStrings _ _ (all_of_some IsUtf8 HasStrings requests.Method method_is called (methods _ called is)) (all_of_some IsUtf8 HasStrings requests.Path path_is path (paths _ path are)))))

pub request_gives : GivesOnly HasStrings request_match
request_gives = match_gives requests_kind HasStrings (record { all = all_is; any = any_is; negated = not_is; own = own_gives })
