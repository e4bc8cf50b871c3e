-- A match is what its table defines, with the matches in it read by the same table, and no other
-- reading is; and each profile that is read is lawful.
use Rattle.k8s_meta.specs.Given.{GivesOnly}
use Rattle.profile_objects.specs.Matches.{match_by}
use Rattle.profile_objects.specs.Nested.{IsOnlySolution}
use Rattle.profile_objects.specs.Profiles.{profile_at}
use Rattle.profile_objects.specs.Requests.{request_match, requests_kind}
use Rattle.profile_objects.specs.Responses.{response_match, responses_kind}
use Rattle.view_types.specs.Lawful.{IsLawfulProfile}

abbrev pub RequestsAreTheirTable : Type 0
RequestsAreTheirTable = IsOnlySolution (match_by requests_kind) request_match

abbrev pub ResponsesAreTheirTable : Type 0
ResponsesAreTheirTable = IsOnlySolution (match_by responses_kind) response_match

abbrev pub ProfilesAreLawful : Type 0
ProfilesAreLawful = GivesOnly IsLawfulProfile profile_at
