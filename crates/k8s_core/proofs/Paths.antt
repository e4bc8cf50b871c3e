-- The paths that probes ask for are strings.
use Rattle.std.proofs.Common.{◌≡◌, ◌==◌, ◌&&◌, ℕ, Bool, true, false, List, [], ◌∷◌, codes, length, get_or, not, Option, Some, None, if◌then◌else◌, refl, arith}
use Rattle.std.proofs.lemmas.Bool.Decides.{nat_tests}
use Rattle.std.proofs.lemmas.List.Sums.{passes_at_first, prefix_len-le-length}
use Rattle.std.proofs.lemmas.Str.{IsUtf8-take}
use lib.Utf8.{encode}
use Rattle.std.specs.List.{before_first, flat_map, position_or_len}
use Rattle.std.specs.Prelude.{bytes_eq}
use Rattle.std.specs.Str.{IsUtf8, chars, is_utf8}
use Rattle.k8s_core.specs.Probes.{asked, at_named, at_port, http_get_at, is_question_mark, or_root, path_in, probe_at}
use Rattle.k8s_core.specs.declared.probe.HttpGet.{HttpGet}
use Rattle.k8s_meta.specs.Given.{GivesOnly}
use Rattle.k8s_meta.proofs.Given.{after, last, optional_gives}
use Rattle.k8s_meta.proofs.GivenLists.{IfThere, all-append}
use Rattle.k8s_meta.proofs.GivenTexts.{empty_utf8, literal, text_or_gives}
use Rattle.view_types.specs.Lawful.{ArePaths}
use Rattle.view_types.specs.declared.server.PortRef.{PortRef}
use Rattle.view_types.specs.declared.server.PortRef.TheVariants.{Number, Named}
use Rattle.view_types.specs.declared.service.NamedPort.{NamedPort}

-- a string may be cut before a question mark
before_utf8 : (target : List ℕ) → IsUtf8 target → IsUtf8 (before_first is_question_mark target)
before_utf8 target is =
    IsUtf8-take target (position_or_len is_question_mark target) is (
      prefix_len-le-length (λ b. not (is_question_mark b)) target,
      λ within high.
          let mark : is_question_mark (get_or target (position_or_len is_question_mark target) 0) ≡ true = passes_at_first is_question_mark target 0 within in
          absurd (grind (arith, nat_tests)),
    )

root_utf8 : IsUtf8 (codes "/")
unfolding is_utf8 chars encode
root_utf8 = literal (codes "/") refl

or_root_utf8 : (path : List ℕ) → IsUtf8 path → IsUtf8 (or_root path)
or_root_utf8 path is = cases (length path == 0)
  where
    cases : (b : Bool) → IsUtf8 (if b then codes "/" else path)
    cases true = root_utf8
    cases false = is

path_utf8 : (target : List ℕ) → IsUtf8 target → IsUtf8 (path_in target)
path_utf8 target is = or_root_utf8 (before_first is_question_mark target) (before_utf8 target is)

abbrev HasPath : HttpGet → Type 0
HasPath get = IsUtf8 get.path

http_get_gives : GivesOnly HasPath http_get_at
unfolding http_get_at
http_get_gives s = after HasPath _ _ (λ g _. after HasPath _ _ (λ target is_target. after HasPath _ _ (λ port _.
    last HasPath _ (path_utf8 target (text_or_gives [] empty_utf8 _ target is_target)))))

pub probe_gives : GivesOnly (IfThere HasPath) probe_at
unfolding probe_at
probe_gives s = after (IfThere HasPath) _ _ (λ p _. optional_gives (IfThere HasPath) http_get_at tt http_get_gives _)

-- ---- the ports that are asked

named_paths : (name path : List ℕ) → IsUtf8 path → (port : NamedPort) → ArePaths (at_named name path port)
named_paths name path is port = cases (port.tcp && bytes_eq port.name name)
  where
    cases : (b : Bool) → ArePaths (if b then (port.port, path) ∷ [] else [])
    cases true = (is, tt)
    cases false = tt

all_named : (name path : List ℕ) → IsUtf8 path → (ports : List NamedPort) → ArePaths (flat_map (at_named name path) ports)
all_named name path is [] = tt
all_named name path is (port ∷ ports) = all-append _ (at_named name path port) (flat_map (at_named name path) ports) (named_paths name path is port) (all_named name path is ports)

port_paths : (ports : List NamedPort) (path : List ℕ) → IsUtf8 path → (port : PortRef) → ArePaths (at_port ports path port)
port_paths ports path is (Number n) = (is, tt)
port_paths ports path is (Named name) = all_named name path is ports

pub asked_paths : (ports : List NamedPort) (probe : Option HttpGet) → IfThere HasPath probe → ArePaths (asked ports probe)
asked_paths ports None is = tt
asked_paths ports (Some get) is = port_paths ports get.path is get.port
