-- Each profile that was read is lawful.
use Rattle.std.specs.Str.{IsUtf8}
use Rattle.k8s_meta.specs.Amounts.{quantity}
use Rattle.k8s_meta.specs.Given.{GivesOnly}
use Rattle.k8s_meta.specs.Words.{text}
use Rattle.k8s_meta.proofs.Given.{after, last, required_gives}
use Rattle.k8s_meta.proofs.GivenLists.{each_gives}
use Rattle.k8s_meta.proofs.GivenMeta.{meta_gives}
use Rattle.k8s_meta.proofs.GivenNumbers.{short_timeout}
use Rattle.k8s_meta.proofs.GivenTexts.{text_gives}
use Rattle.view_types.specs.Lawful.{IsLawfulOverride, IsLawfulProfile, IsLawfulProfileRoute}
use Rattle.view_types.specs.declared.profile.RespClass.{RespClass}
use Rattle.profile_objects.specs.Profiles.{class_at, override_at, profile_at, route_at}
use Rattle.profile_objects.specs.Requests.{request_match}
use Rattle.profile_objects.specs.Responses.{response_match}
use Rattle.profile_objects.proofs.Quantities.{IsThousandths, quantity_gives}
use Rattle.profile_objects.proofs.Statuses.{HasStatuses, response_gives}
use Rattle.profile_objects.proofs.Strings.{HasStrings, request_gives}

abbrev IsLawfulClass : RespClass → Type 0
IsLawfulClass c = HasStatuses c.condition

class_gives : GivesOnly IsLawfulClass class_at
unfolding class_at
class_gives s =
    after IsLawfulClass _ _ (λ c _. after IsLawfulClass _ _ (λ condition is. after IsLawfulClass _ _ (λ failure _. last IsLawfulClass _ (required_gives HasStatuses response_match response_gives _ condition is))))

route_gives : GivesOnly IsLawfulProfileRoute route_at
unfolding route_at
route_gives s =
    let P = IsLawfulProfileRoute in
    after P _ _ (λ r _. after P _ _ (λ called is. after P _ _ (λ condition matches. after P _ _ (λ classes are. after P _ _ (λ retryable _. after P _ _ (λ timeout short. last P _ (record {
      name = required_gives IsUtf8 text text_gives _ called is;
      condition = required_gives HasStrings request_match request_gives _ condition matches;
      classes = each_gives IsLawfulClass class_at class_gives _ classes are;
      timeout = short_timeout _ timeout short;
    })))))))

override_gives : GivesOnly IsLawfulOverride override_at
unfolding override_at
override_gives s =
    let P = IsLawfulOverride in
    after P _ _ (λ o _. after P _ _ (λ authority is. after P _ _ (λ weight some. last P _ (record {
      authority = required_gives IsUtf8 text text_gives _ authority is;
      weight = required_gives IsThousandths quantity quantity_gives _ weight some;
    }))))

pub profile_gives : GivesOnly IsLawfulProfile profile_at
unfolding profile_at
profile_gives s =
    let P = IsLawfulProfile in
    after P _ _ (λ meta is. after P _ _ (λ spec _. after P _ _ (λ routes are. after P _ _ (λ overrides all. last P _ (record {
      meta = meta_gives 253 s meta is;
      routes = each_gives IsLawfulProfileRoute route_at route_gives _ routes are;
      overrides = each_gives IsLawfulOverride override_at override_gives _ overrides all;
    })))))
