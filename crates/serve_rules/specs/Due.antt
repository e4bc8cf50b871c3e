-- What a link is due: the answers to its lines, or the frames of its drains; and what was written on it.
use Rattle.std.specs.Prelude.{◌≡◌, ◌≤◌, ◌<◌, ℕ, ◌==◌, Bool, true, false, if◌then◌else◌, List, [], ◌∷◌, ◌++◌, take, drop, length, Option, Some, None}
use Rattle.std.specs.List.{concat, flat_map}
use Rattle.mesh_links.specs.declared.call.LinkCall.{LinkCall}
use Rattle.mesh_links.specs.declared.call.LinkCall.TheVariants as calls
use Rattle.mesh_links.specs.declared.call.LinkEvent.{LinkEvent}
use Rattle.mesh_links.specs.declared.call.LinkEvent.TheVariants as events
use Rattle.mesh_links.specs.declared.call.WriteGot.{WriteGot}
use Rattle.mesh_links.specs.declared.call.WriteGot.TheVariants as writes
use Rattle.view_types.specs.declared.query.Query.{Query}
use Rattle.serve_rules.specs.FedLines.{FedRow, answer_to, up_to}
use Rattle.serve_rules.specs.Batches.{Serving, frames_due}
use Rattle.serve_rules.specs.LinkStates.{LinkState, is_feed, query_of}
use Rattle.serve_rules.specs.Turns.{Turn, IsTurn}
use Rattle.serve_rules.specs.Traces.{AreTurns, fed_in}

-- ---- what was written

abbrev pub took_of : WriteGot → List ℕ → List ℕ
took_of (writes.Took n) piece = take n piece
took_of writes.Pending piece = []
took_of writes.Failed piece = []

abbrev pub written_by : ℕ → LinkCall → List ℕ
written_by k (calls.Poll wait got) = []
written_by k (calls.Read n room got) = []
written_by k (calls.Write n piece got) = if n == k then took_of got piece else []
written_by k (calls.Close n) = []

-- what was written on a link
abbrev pub written : ℕ → List LinkCall → List ℕ
written k made = flat_map (written_by k) made

-- ---- the link with a number

abbrev pub find : ℕ → List LinkState → Option LinkState
find k [] = None
find k (s ∷ ss) = if s.number == k then Some s else find k ss

abbrev pub Absent : ℕ → List LinkState → Type 0
Absent k [] = Unit {0}
Absent k (s ∷ ss) = ((s.number == k) ≡ false) × Absent k ss

-- at most one link has the number
abbrev pub Once : ℕ → List LinkState → Type 0
Once k [] = Unit {0}
Once k (s ∷ ss) = ((s.number == k) ≡ true → Absent k ss) × Once k ss

-- ---- what is due

-- the answers to all lines of a link
abbrev pub answers_of : Serving → ℕ → List FedRow → List (List ℕ)
answers_of serving k [] = []
answers_of serving k (f ∷ past) = answers_of serving k past ++ (if f.link == k then answer_to serving.program past f else [])

-- the answers to the link's lines among those added since
abbrev pub answered : Serving → ℕ → List FedRow → List FedRow → List (List ℕ)
answered serving k fed now = drop (length (answers_of serving k fed)) (answers_of serving k now)

abbrev pub is_at : Option ℕ → ℕ → Bool
is_at None p = false
is_at (Some q) p = q == p

abbrev pub frames_or_none : Option (List (List ℕ)) → List (List ℕ)
frames_or_none None = []
frames_or_none (Some frames) = frames

abbrev pub frames_for : Serving → Option Query → Option ℕ → List FedRow → List (List ℕ)
frames_for serving None d fed = []
frames_for serving (Some query) d fed = frames_or_none (frames_due serving.program query d fed)

-- the frames that were put into the outbox of a link, given the places of its last drain before and after
abbrev pub put : Serving → Option Query → Option ℕ → Option ℕ → List FedRow → List (List ℕ)
put serving query d None fed = []
put serving query d (Some p) fed = if is_at d p then [] else frames_for serving query d (up_to p fed)

-- ---- in one turn

-- no event reports the link as new
abbrev pub NoNewEvents : ℕ → List LinkEvent → Type 0
NoNewEvents k [] = Unit {0}
NoNewEvents k (events.New n ∷ shown) = ((n == k) ≡ false) × NoNewEvents k shown
NoNewEvents k (events.Readable n ∷ shown) = NoNewEvents k shown
NoNewEvents k (events.Writable n ∷ shown) = NoNewEvents k shown

abbrev pub NoNew : ℕ → Option (List LinkEvent) → Type 0
NoNew k None = Unit {0}
NoNew k (Some shown) = NoNewEvents k shown

-- a link after a turn, given its state before the turn
pub record Served (serving : Serving) (k : ℕ) (fed : List FedRow) (s : LinkState) (r : Turn) : Type 0 where
  pub t : LinkState
  pub found : find k r.links ≡ Some t
  pub once : Once k r.links
  -- What was written on it, with what is left, is what was left before, its answers and its frames.
  pub due : written k r.made ++ concat t.outbox ≡ concat s.outbox ++ concat (answered serving k fed r.fed ++ put serving (query_of serving t.bytes) s.drained t.drained r.fed)

abbrev pub Due : Type 0
Due = (serving : Serving) (strict : Bool) (k : ℕ) (fed : List FedRow) (before : List LinkState) (r : Turn) (s : LinkState)
    → IsTurn serving strict fed before r → NoNew k r.shown → Once k before → find k before ≡ Some s → Served serving k fed s r

-- ---- in a list of turns

abbrev pub place_of : Option LinkState → Option ℕ
place_of None = None
place_of (Some s) = s.drained

abbrev pub outbox_of : Option LinkState → List (List ℕ)
outbox_of None = []
outbox_of (Some s) = s.outbox

abbrev pub query_at : Serving → Option LinkState → Option Query
query_at serving None = None
query_at serving (Some s) = query_of serving s.bytes

-- the link is open after each turn, and none reports it as new
abbrev pub Stays : ℕ → List Turn → Type 0
Stays k [] = Unit {0}
Stays k (r ∷ rounds) = NoNew k r.shown × ((t : LinkState) → find k r.links ≡ Some t → t.is_open ≡ true) × Stays k rounds

-- the answers and the frames of a link, from a place
abbrev pub due_items : Serving → ℕ → List FedRow → Option ℕ → List Turn → List (List ℕ)
due_items serving k fed d [] = []
due_items serving k fed d (r ∷ rounds) = (answered serving k fed r.fed ++ put serving (query_at serving (find k r.links)) d (place_of (find k r.links)) r.fed) ++ due_items serving k r.fed (place_of (find k r.links)) rounds

abbrev pub all_written : ℕ → List Turn → List ℕ
all_written k [] = []
all_written k (r ∷ rounds) = written k r.made ++ all_written k rounds

abbrev pub left : ℕ → List (List ℕ) → List Turn → List (List ℕ)
left k outbox [] = outbox
left k outbox (r ∷ rounds) = left k (outbox_of (find k r.links)) rounds

-- What was written on a link in a list of turns, with its outbox after them, is its outbox before them, its answers and its frames.
abbrev pub TraceDue : Type 0
TraceDue = (serving : Serving) (strict : Bool) (k : ℕ) (fed : List FedRow) (before : List LinkState) (rounds : List Turn) (s : LinkState)
    → AreTurns serving strict fed before rounds → Once k before → find k before ≡ Some s → Stays k rounds
    → all_written k rounds ++ concat (left k s.outbox rounds) ≡ concat s.outbox ++ concat (due_items serving k fed s.drained rounds)

-- ---- by places

abbrev pub new_place : Option ℕ → Option ℕ → List ℕ
new_place d None = []
new_place d (Some p) = if is_at d p then [] else p ∷ []

-- the places of a link's drains in a list of turns
abbrev pub places : ℕ → Option ℕ → List Turn → List ℕ
places k d [] = []
places k d (r ∷ rounds) = new_place d (place_of (find k r.links)) ++ places k (place_of (find k r.links)) rounds

-- the frames of drains at places in what was fed
abbrev pub batches : Serving → Option Query → List FedRow → Option ℕ → List ℕ → List (List ℕ)
batches serving query fed d [] = []
batches serving query fed d (p ∷ ps) = frames_for serving query d (up_to p fed) ++ batches serving query fed (Some p) ps

-- the link is no feed after any of the turns
abbrev pub NoFeedIn : Serving → ℕ → List Turn → Type 0
NoFeedIn serving k [] = Unit {0}
NoFeedIn serving k (r ∷ rounds) = ((t : LinkState) → find k r.links ≡ Some t → is_feed serving t.bytes ≡ false) × NoFeedIn serving k rounds

abbrev pub last_query : Serving → ℕ → Option Query → List Turn → Option Query
last_query serving k query [] = query
last_query serving k query (r ∷ rounds) = last_query serving k (query_at serving (find k r.links)) rounds

-- What a link that is no feed is due is a function of the lines fed, of its query and of the places of its drains.
abbrev pub ByPlaces : Type 0
ByPlaces = (serving : Serving) (strict : Bool) (k : ℕ) (fed : List FedRow) (before : List LinkState) (rounds : List Turn) (s : LinkState)
    → AreTurns serving strict fed before rounds → Once k before → find k before ≡ Some s → Stays k rounds → NoFeedIn serving k rounds
    → due_items serving k fed s.drained rounds ≡ batches serving (last_query serving k (query_of serving s.bytes) rounds) (fed_in fed rounds) s.drained (places k s.drained rounds)

-- ---- places never decrease

abbrev pub IsPlaced : Option ℕ → List FedRow → Type 0
IsPlaced None fed = Unit {0}
IsPlaced (Some p) fed = p ≤ length fed

abbrev pub IsBefore : Option ℕ → ℕ → Type 0
IsBefore None p = Unit {0}
IsBefore (Some q) p = q < p

abbrev pub Ascend : Option ℕ → List ℕ → Type 0
Ascend d [] = Unit {0}
Ascend d (p ∷ ps) = IsBefore d p × Ascend (Some p) ps

abbrev pub PlacesAscend : Type 0
PlacesAscend = (serving : Serving) (strict : Bool) (k : ℕ) (fed : List FedRow) (before : List LinkState) (rounds : List Turn) (s : LinkState)
    → AreTurns serving strict fed before rounds → Once k before → find k before ≡ Some s → Stays k rounds → IsPlaced s.drained fed
    → Ascend s.drained (places k s.drained rounds)
