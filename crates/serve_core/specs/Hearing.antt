-- The effect of the requests in a link's bytes on a server.
use Rattle.std.specs.Prelude.{◌≡◌, ◌≢◌, ◌≤◌, ◌⊎◌, ℕ, Bool, true, false, nat_lt, if◌then◌else◌, List, [], ◌∷◌, Option, Some, None, Result, Ok, Err}
use Rattle.mesh_base.specs.declared.memory.Memory.{Memory}
use Rattle.mesh_base.specs.declared.sub_id.SubId.{SubId}
use Rattle.line_run.specs.Rows.{Row}
use Rattle.view_types.specs.declared.query.Query.{Query}
use Rattle.session_core.specs.declared.session.Ask.{Ask}
use Rattle.session_core.specs.declared.session.Ask.TheVariants as asks
use Rattle.session_core.specs.declared.session.SessionFault.{SessionFault}
use Rattle.session_core.specs.declared.session.SessionFault.TheVariants as faults
use Rattle.route_match.specs.Matching.{Pat}
use Rattle.feed_history.specs.KnownPatterns.{PatternsNow, known_of}
use Rattle.link_sessions.specs.Entries.{Feeds, changed, entries_of, filled, passes_at}
use Rattle.link_sessions.specs.Roles.{is_opening}
use Rattle.link_sessions.specs.Settled.{IsSettled, IsSettledBut, IsUnknown}
use Rattle.link_sessions.specs.declared.link.Role.TheVariants as roles
use Rattle.fed_hub.specs.HubSteps.{IsSubscribed, IsTurnedAway}
use Rattle.fed_hub.specs.LineSteps.{AppliesTo}
use Rattle.serve_core.specs.declared.turning.Turning.{Turning}

-- ---- one request

-- a line is applied, and its answer is added
pub record FeedsLine (line : ℕ) (row : Row) (known : PatternsNow) (old : Turning) (answers : List (List ℕ)) (new : Turning) (answers_now : List (List ℕ)) : Type 0 where
  pub applies : AppliesTo old.hub new.hub line row known answers answers_now
  pub same : new ≡ record old { hub = new.hub }

-- the peer sends nothing more
pub record EndsInput (number : ℕ) (old new : Turning) : Type 0 where
  pub same : new ≡ record old { kept = new.kept }
  pub entries : entries_of new.kept ≡ changed number (λ link. record link { ended = true }) (entries_of old.kept)
  pub settled : IsSettledBut number old.kept → IsSettledBut number new.kept

-- the link becomes a feed, unless the limit on feeds is reached
pub record BeginsFeed (number : ℕ) (old : Turning) (goes : Bool) (new : Turning) : Type 0 where
  pub same : new ≡ record old { kept = new.kept }
  pub admits : goes ≡ nat_lt old.kept.feeds old.limits.feeds
  pub entries : entries_of new.kept ≡ (if goes then changed number (λ link. record link { role = roles.Feed }) (entries_of old.kept) else entries_of old.kept)
  pub settled : passes_at (λ link. is_opening link.role) (entries_of old.kept) number ≡ true → IsSettledBut number old.kept → IsSettledBut number new.kept

-- the link subscribes
pub record IsSubscriber (number : ℕ) (query : Query) (old new : Turning) : Type 0 where
  pub id : SubId
  pub subscribed : IsSubscribed query old.hub new.hub id
  pub same : new ≡ record old { hub = new.hub; kept = new.kept }
  pub entries : entries_of new.kept ≡ changed number (λ link. record link { role = roles.Subscriber id }) (entries_of old.kept)
  pub settled : passes_at (λ link. is_opening link.role) (entries_of old.kept) number ≡ true → IsUnknown id.0 (entries_of old.kept) → IsSettledBut number old.kept → IsSettledBut number new.kept

-- its request is refused, since the limit on subscriptions is reached
pub record IsRefused (old new : Turning) : Type 0 where
  pub turned_away : IsTurnedAway old.hub new.hub
  pub same : new ≡ record old { hub = new.hub }

abbrev pub SubscribesBy : ℕ → Query → Turning → Bool → Turning → Type 0
SubscribesBy number query old true new = IsSubscriber number query old new
SubscribesBy number query old false new = IsRefused old new

-- The request is carried out, unless a limit is reached.
abbrev pub IsDone : ℕ → Ask → PatternsNow → Turning → List (List ℕ) → Bool → Turning → List (List ℕ) → Type 0
IsDone number (asks.Subscribe query) known old answers goes new answers_now = (answers_now ≡ answers) × SubscribesBy number query old goes new
IsDone number asks.FeedBegins known old answers goes new answers_now = (answers_now ≡ answers) × BeginsFeed number old goes new
IsDone number (asks.Line line text) known old answers goes new answers_now = (goes ≡ true) × FeedsLine line (Some text) known old answers new answers_now
IsDone number (asks.LongLine line) known old answers goes new answers_now = (goes ≡ true) × FeedsLine line None known old answers new answers_now
IsDone number asks.Ended known old answers goes new answers_now = (goes ≡ true) × (answers_now ≡ answers) × EndsInput number old new

-- only these can run out of memory
abbrev pub MayFail : Ask → Type 0
MayFail (asks.Subscribe query) = Unit {0}
MayFail asks.FeedBegins = ⊥
MayFail (asks.Line line text) = Unit {0}
MayFail (asks.LongLine line) = Unit {0}
MayFail asks.Ended = ⊥

abbrev pub TakesAsk : ℕ → Ask → PatternsNow → Turning → List (List ℕ) → Result Bool Memory → Turning → List (List ℕ) → Type 0
TakesAsk number ask known old answers (Ok goes) new answers_now = IsDone number ask known old answers goes new answers_now
TakesAsk number ask known old answers (Err memory) new answers_now = MayFail ask

-- ---- several requests

-- the requests after the one that reached a limit or ran out of memory are not carried out
abbrev pub StopsAt : ℕ → Ask → PatternsNow → Turning → List (List ℕ) → Result Bool Memory → Turning → List (List ℕ) → Type 0
StopsAt number ask known old answers (Ok true) new answers_now = ⊥
StopsAt number ask known old answers (Ok false) new answers_now = IsDone number ask known old answers false new answers_now × (known.before ≤ known.now)
StopsAt number ask known old answers (Err memory) new answers_now = MayFail ask × (known.before ≤ known.now)

abbrev pub TakesEach : ℕ → Option Pat → Option (List ℕ → Bool) → List Ask → ℕ → Turning → List (List ℕ) → Result Bool Memory → ℕ → Turning → List (List ℕ) → Type 0
TakesEach number tells refuses [] before old answers result now new answers_now = (result ≡ Ok true) × (now ≡ before) × (new ≡ old) × (answers_now ≡ answers)
TakesEach number tells refuses (ask ∷ more) before old answers result now new answers_now =
    StopsAt number ask (known_of tells refuses before now) old answers result new answers_now
    ⊎ ((mid : ℕ) × (between : Turning) × (answers_mid : List (List ℕ)) × (before ≤ mid) × IsDone number ask (known_of tells refuses before mid) old answers true between answers_mid × TakesEach number tells refuses more mid between answers_mid result now new answers_now)

-- all requests were carried out, and the answers are put into the outbox
pub record PutsAnswers (number : ℕ) (asked : List Ask) (known : PatternsNow) (old new : Turning) : Type 0 where
  pub between : Turning
  pub answers : List (List ℕ)
  pub each : TakesEach number known.tells known.refuses asked known.before old [] (Ok true) known.now between answers
  pub same : new ≡ record between { kept = new.kept }
  pub entries : entries_of new.kept ≡ changed number (filled answers) (entries_of between.kept)
  pub settled : IsSettledBut number between.kept → IsSettled new.kept

-- it is known how many requests were carried out
pub record IsCutShort (number : ℕ) (asked : List Ask) (known : PatternsNow) (old : Turning) : Type 0 where
  pub result : Result Bool Memory
  pub between : Turning
  pub answers : List (List ℕ)
  pub each : TakesEach number known.tells known.refuses asked known.before old [] result known.now between answers

abbrev pub TakesAll : ℕ → List Ask → PatternsNow → Turning → Result Bool Memory → Turning → Type 0
TakesAll number asked known old (Ok true) new = PutsAnswers number asked known old new
TakesAll number asked known old (Ok false) new = (answers : List (List ℕ)) × TakesEach number known.tells known.refuses asked known.before old [] (Ok false) known.now new answers
TakesAll number asked known old (Err memory) new = IsCutShort number asked known old

-- ---- a piece of a link's bytes

-- the piece is passed to the session of the link
pub record IsGiven (number : ℕ) (piece : List ℕ) (answer : Result (List Ask) SessionFault) (old new : Turning) : Type 0 where
  pub same : new ≡ record old { kept = new.kept }
  pub feeds : Feeds number piece (entries_of old.kept) answer (entries_of new.kept)
  pub settled : IsSettledBut number old.kept → IsSettledBut number new.kept

-- the bytes have a fault
pub record IsFaulty (number : ℕ) (piece : List ℕ) (old new : Turning) : Type 0 where
  pub fault : SessionFault
  pub known : fault ≢ faults.Memory
  pub given : IsGiven number piece (Err fault) old new

-- the bytes have no fault, and their requests are carried out
pub record IsHeard (number : ℕ) (piece : List ℕ) (known : PatternsNow) (old : Turning) (result : Result Bool Memory) (new : Turning) : Type 0 where
  pub asked : List Ask
  pub mid : Turning
  pub given : IsGiven number piece (Ok asked) old mid
  pub takes : TakesAll number asked known mid result new

abbrev pub Hears : ℕ → List ℕ → PatternsNow → Turning → Result Bool Memory → Turning → Type 0
Hears number piece known old (Ok true) new = IsHeard number piece known old (Ok true) new
Hears number piece known old (Ok false) new = IsFaulty number piece old new ⊎ IsHeard number piece known old (Ok false) new
Hears number piece known old (Err memory) new = (known.before ≤ known.now) ⊎ IsHeard number piece known old (Err memory) new
