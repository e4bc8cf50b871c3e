-- What is kept in three parts, as ids are opened and closed, and as changes are followed.
use Rattle.std.proofs.Common.{◌≡◌, inl, inr, ℕ, ◌||◌, ◌++◌, nat_eq, Bool, true, false, cond, List, Option, Some, None, Result, Ok, Err, OnOk, refl, sym, ap, ◌∙◌}
use Rattle.std.proofs.Math.Bool.{or-false, or_assoc}
use Rattle.std.proofs.lemmas.Bool.Decides.{eqb_tells}
use Rattle.std.proofs.lemmas.List.Folds.{list_any-append}
use Rattle.std.specs.BTreeMap.{BTreeMap}
use Rattle.std.specs.Option.{option_or}
use Rattle.std.specs.Prelude.{option_map}
use Rattle.view_types.specs.Objects.{ObjectMap}
use Rattle.view_types.specs.declared.config.Config.{Config}
use Rattle.view_types.specs.declared.mark.Mark.{Mark}
use Rattle.view_types.specs.declared.query.Query.{Query}
use Rattle.view_types.specs.declared.view.View.{View}
use Rattle.mark_graph.specs.RowMarks.{has_row}
use Rattle.mark_rules.specs.Marks.{meets}
use Rattle.mark_rules.specs.Reads.{query_reads}
use Rattle.row_views.specs.Ids.{Keeps, SetsAt, key_at}
use Rattle.row_views.specs.Queries.{reads_one, view_at}
use Rattle.kept_views.specs.Parts.{AreApart, PartsStand, first_of}

-- the query that an id is open with, by its key
abbrev pub asked_by : {Key : Type 0} → (Key → Query) → BTreeMap ℕ Key → ℕ → Option Query
asked_by query_for by_id id = option_map query_for (key_at by_id id)

pub ok_both : {A E P Q R : Type 0} (r : Result A E) → OnOk r P → OnOk r Q → (P → Q → R) → OnOk r R
ok_both (Ok a) p q f = f p q
ok_both (Err e) p q f = tt

-- ---- what is open in no part

pub none_first : {X : Type 0} (first second : Option X) → option_or first second ≡ None → first ≡ None
none_first None second none = refl
none_first (Some x) second none = absurd (cc none)

pub none_second : {X : Type 0} (first second : Option X) → option_or first second ≡ None → second ≡ None
none_second None second none = none
none_second (Some x) second none = absurd (cc none)

pub apart_none : (asked others : ℕ → Option Query) → ((id : ℕ) → asked id ≡ None) → AreApart asked others
apart_none asked others none id query is = absurd (cc (sym (none id) ∙ is))

-- ---- what is set at an id

-- one that isn't open may be said to be closed
pub unset : (id : ℕ) (asked : ℕ → Option Query) → asked id ≡ None → SetsAt id None asked asked
unset id asked none n = elim (eqb_tells n id) [
  | inl same ↦ ap asked same.1 ∙ none ∙ sym (ap (λ b. cond b None (asked n)) same.0)
  | inr apart ↦ sym (ap (λ b. cond b None (asked n)) apart.0)
]

either_at : {X : Type 0} (b : Bool) (x y old other : Option X) → option_or (cond b x old) (cond b y other) ≡ cond b (option_or x y) (option_or old other)
either_at true x y old other = refl
either_at false x y old other = refl

set_either : (id : ℕ) (x y : Option Query) (asked new others later : ℕ → Option Query) → SetsAt id x asked new → SetsAt id y others later → SetsAt id (option_or x y) (λ n. option_or (asked n) (others n)) (λ n. option_or (new n) (later n))
set_either id x y asked new others later first second n = (λ i. option_or (first n i) (second n i)) ∙ either_at (nat_eq n id) x y (asked n) (others n)

set_apart : (id : ℕ) (x y : Option Query) (asked new others later : ℕ → Option Query) → ((query : Query) → x ≡ Some query → y ≡ None) → SetsAt id x asked new → SetsAt id y others later → AreApart asked others → AreApart new later
set_apart id x y asked new others later one first second apart n query is = elim (eqb_tells n id) [
  | inl same ↦ second n ∙ ap (λ b. cond b y (others n)) same.0 ∙ one query (sym (first n ∙ ap (λ b. cond b x (asked n)) same.0) ∙ is)
  | inr other ↦ second n ∙ ap (λ b. cond b y (others n)) other.0 ∙ apart n query (sym (first n ∙ ap (λ b. cond b x (asked n)) other.0) ∙ is)
]

module _ (a b c : ℕ → Option Query) (x y z : ℕ → Option Query) {P Q R X Y Z : Type 0} (old : PartsStand P Q R a b c) (profiles : X) (ports : Y) (outbound : Z) where
  -- an id is set in each part, and open in one at most
  pub set_parts : (id : ℕ) (p q r : Option Query) → ((query : Query) → p ≡ Some query → option_or q r ≡ None) → ((query : Query) → q ≡ Some query → r ≡ None) → SetsAt id p a x → SetsAt id q b y → SetsAt id r c z → PartsStand X Y Z x y z
  set_parts id p q r one other first second third = record {
    profiles = profiles;
    ports = ports;
    outbound = outbound;
    profiles_apart = set_apart id p (option_or q r) a x (λ n. option_or (b n) (c n)) (λ n. option_or (y n) (z n)) one first (set_either id q r b y c z second third) old.profiles_apart;
    ports_apart = set_apart id q r b y c z other second third old.ports_apart;
  }

  -- each id has what it had
  pub kept_parts : Keeps a x → Keeps b y → Keeps c z → PartsStand X Y Z x y z
  kept_parts first second third = record {
    profiles = profiles;
    ports = ports;
    outbound = outbound;
    profiles_apart = λ n query is. (λ i. option_or (second n i) (third n i)) ∙ old.profiles_apart n query (sym (first n) ∙ is);
    ports_apart = λ n query is. third n ∙ old.ports_apart n query (sym (second n) ∙ is);
  }

-- an id that is open in no part is set in that of ports
pub set_port : (a b c later : ℕ → Option Query) {P Q R Y : Type 0} → PartsStand P Q R a b c → Y → (id : ℕ) (q : Option Query) → first_of (a id) (b id) (c id) ≡ None → SetsAt id q b later → PartsStand P Y R a later c
set_port a b c later old ports id q free sets =
    set_parts a b c a later c old old.profiles ports old.outbound id None q None (λ query is. absurd (cc is)) (λ query is. refl)
    (unset id a (none_first (a id) _ free)) sets (unset id c (none_second (b id) (c id) (none_second (a id) _ free)))

-- ---- what is shown

module _ (config : Config) (held : ObjectMap) where
  pub shown_first : (asked other : Option Query) (view : View) → Some view ≡ view_at config held asked → Some view ≡ view_at config held (option_or asked other)
  shown_first None other view is = absurd (cc is)
  shown_first (Some query) other view is = is

  pub shown_second : (asked other : Option Query) (view : Option View) → None ≡ view_at config held asked → view ≡ view_at config held other → view ≡ view_at config held (option_or asked other)
  shown_second None other view none is = is
  shown_second (Some query) other view none is = absurd (cc none)

-- ---- what is read

module _ (config : Config) (held : ObjectMap) (changed : List Mark) where
  -- an id is open in one of the two at most
  either_reads : (asked other : Option Query) → ((query : Query) → asked ≡ Some query → other ≡ None) → (reads_one config held changed asked || reads_one config held changed other) ≡ reads_one config held changed (option_or asked other)
  either_reads None other apart = refl
  either_reads (Some query) other apart = ap (λ o. meets (query_reads config held query) changed || reads_one config held changed o) (apart query refl) ∙ or-false (meets (query_reads config held query) changed)

  pub parts_read : {Profiles Ports Outbound : Type 0} (of_profiles of_ports of_outbound : ℕ → Option Query) → PartsStand Profiles Ports Outbound of_profiles of_ports of_outbound → (id : ℕ) (profiles ports outbound : List ℕ)
      → has_row id profiles ≡ reads_one config held changed (of_profiles id) → has_row id ports ≡ reads_one config held changed (of_ports id) → has_row id outbound ≡ reads_one config held changed (of_outbound id)
      → has_row id ((profiles ++ ports) ++ outbound) ≡ reads_one config held changed (first_of (of_profiles id) (of_ports id) (of_outbound id))
  parts_read of_profiles of_ports of_outbound stand id profiles ports outbound first second third =
      list_any-append (nat_eq id) (profiles ++ ports) outbound
      ∙ ap (λ found. found || has_row id outbound) (list_any-append (nat_eq id) profiles ports)
      ∙ or_assoc (has_row id profiles) (has_row id ports) (has_row id outbound)
      ∙ (λ i. first i || (second i || third i))
      ∙ ap (λ found. reads_one config held changed (of_profiles id) || found) (either_reads (of_ports id) (of_outbound id) (stand.ports_apart id))
      ∙ either_reads (of_profiles id) (option_or (of_ports id) (of_outbound id)) (stand.profiles_apart id)
