-- What was written on a link since the server began, compared with all that it was due; and what other links are sent if a link is left
-- out.
use Rattle.std.specs.Prelude.{◌≡◌, ◌⊎◌, ℕ, ◌==◌, Bool, true, false, List, [], ◌∷◌, ◌++◌, map, Option, Some, None}
use Rattle.std.specs.List.{concat}
use Rattle.mesh_links.specs.declared.call.LinkEvent.{LinkEvent}
use Rattle.mesh_links.specs.declared.call.LinkEvent.TheVariants as events
use Rattle.view_types.specs.declared.query.Query.{Query}
use Rattle.serve_rules.specs.FedLines.{FedRow}
use Rattle.serve_rules.specs.Batches.{Serving}
use Rattle.serve_rules.specs.LinkStates.{LinkState}
use Rattle.serve_rules.specs.Turns.{Turn}
use Rattle.serve_rules.specs.Traces.{AreTurns, fed_in, links_in}
use Rattle.serve_rules.specs.LinkErasure.{round_without}
use Rattle.serve_rules.specs.Due.{Ascend, NoFeedIn, NoNewEvents, NoNew, all_written, batches, due_items, find, places, query_at}

-- the link is reported as new once
abbrev pub NewOnceEvents : ℕ → List LinkEvent → Type 0
NewOnceEvents k [] = ⊥
NewOnceEvents k (events.New n ∷ shown) = (((n == k) ≡ true) × NoNewEvents k shown) ⊎ (((n == k) ≡ false) × NewOnceEvents k shown)
NewOnceEvents k (events.Readable n ∷ shown) = NewOnceEvents k shown
NewOnceEvents k (events.Writable n ∷ shown) = NewOnceEvents k shown

abbrev pub NewOnce : ℕ → Option (List LinkEvent) → Type 0
NewOnce k None = ⊥
NewOnce k (Some shown) = NewOnceEvents k shown

abbrev pub NeverNew : ℕ → List Turn → Type 0
NeverNew k [] = Unit {0}
NeverNew k (r ∷ rounds) = NoNew k r.shown × NeverNew k rounds

-- the link is reported as new at most once
abbrev pub NewAtMostOnce : ℕ → List Turn → Type 0
NewAtMostOnce k [] = Unit {0}
NewAtMostOnce k (r ∷ rounds) = (NoNew k r.shown × NewAtMostOnce k rounds) ⊎ (NewOnce k r.shown × NeverNew k rounds)

-- what was written, and a rest that is due and unwritten; if the link is open, the rest is its outbox
pub record IsFrontOfDue (written : List ℕ) (due : List (List ℕ)) (k : ℕ) (links : List LinkState) : Type 0 where
  pub rest : List ℕ
  pub joined : written ++ rest ≡ concat due
  pub unwritten : (t : LinkState) → find k links ≡ Some t → rest ≡ concat t.outbox

-- What was written on a link is a prefix of its answers and its frames, and all of them if the link is open and its outbox is empty.
abbrev pub WrittenIsDue : Type 0
WrittenIsDue = (serving : Serving) (strict : Bool) (k : ℕ) (rounds : List Turn) → AreTurns serving strict [] [] rounds → NewAtMostOnce k rounds
    → IsFrontOfDue (all_written k rounds) (due_items serving k [] None rounds) k (links_in [] rounds)

-- ---- by places

-- the query so far, or the current one if there is one
abbrev pub kept : Option Query → Option Query → Option Query
kept query None = query
kept query (Some now) = Some now

-- the query that a link requested
abbrev pub asked_query : Serving → ℕ → Option Query → List Turn → Option Query
asked_query serving k query [] = query
asked_query serving k query (r ∷ rounds) = asked_query serving k (kept query (query_at serving (find k r.links))) rounds

-- All that a link that is no feed is due is a function of the lines fed, of its query and of the places of its drains.
abbrev pub DueByPlaces : Type 0
DueByPlaces = (serving : Serving) (strict : Bool) (k : ℕ) (rounds : List Turn) → AreTurns serving strict [] [] rounds → NewAtMostOnce k rounds → NoFeedIn serving k rounds
    → due_items serving k [] None rounds ≡ batches serving (asked_query serving k None rounds) (fed_in [] rounds) None (places k None rounds)

-- The places of a link's drains never decrease.
abbrev pub AllPlacesAscend : Type 0
AllPlacesAscend = (serving : Serving) (strict : Bool) (k : ℕ) (rounds : List Turn) → AreTurns serving strict [] [] rounds → NewAtMostOnce k rounds → NoFeedIn serving k rounds → Ascend None (places k None rounds)

-- ---- the other links, if a link is left out

pub record SameFor (serving : Serving) (j : ℕ) (fed : List FedRow) (d : Option ℕ) (some all : List Turn) : Type 0 where
  pub due : due_items serving j fed d some ≡ due_items serving j fed d all
  pub places_are : places j d some ≡ places j d all
  pub written : all_written j some ≡ all_written j all

-- Without a link, each other link is due the same, at the same places, and is written the same.
abbrev pub SameForOthers : Type 0
SameForOthers = (serving : Serving) (j k : ℕ) → (j == k) ≡ false → (fed : List FedRow) (d : Option ℕ) (rounds : List Turn) → SameFor serving j fed d (map (round_without k) rounds) rounds
