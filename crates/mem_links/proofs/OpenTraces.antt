-- What calls make of the links that a trace shows as open.
use Rattle.std.proofs.Common.{◌≡◌, ℕ, ◌<◌, ◌==◌, Bool, true, false, ◌||◌, not, List, [], ◌∷◌, ◌++◌, filter, Some, None, refl, sym, ap, ◌∙◌, subst, if◌then◌else◌, max, cond, arith}
use Rattle.std.proofs.lemmas.Bool.Decides.{nat_tests}
use Rattle.mesh_links.specs.Calls.{AreAbove, is_open_after, is_open_after_events, is_open_in, last_after, last_in, last_of_events}
use Rattle.mesh_links.specs.declared.call.LinkCall.{LinkCall}
use Rattle.mesh_links.specs.declared.call.LinkCall.TheVariants as calls
use Rattle.mesh_links.specs.declared.call.LinkEvent.{LinkEvent}
use Rattle.mesh_links.specs.declared.call.LinkEvent.TheVariants as events
use Rattle.mesh_links.specs.declared.call.ReadGot.{ReadGot}
use Rattle.mesh_links.specs.declared.call.WriteGot.{WriteGot}
use Rattle.mem_links.specs.OpenNumbers.{Shows, Steps, Tells, is_among}

-- ---- traces one after another

open_after_then : (n : ℕ) (b : Bool) (xs ys : List LinkCall) → is_open_after n b (xs ++ ys) ≡ is_open_after n (is_open_after n b xs) ys
open_after_then n b [] ys = refl
open_after_then n b (calls.Poll wait None ∷ xs) ys = open_after_then n b xs ys
open_after_then n b (calls.Poll wait (Some shown) ∷ xs) ys = open_after_then n (is_open_after_events n b shown) xs ys
open_after_then n b (calls.Read m room got ∷ xs) ys = open_after_then n b xs ys
open_after_then n b (calls.Write m piece got ∷ xs) ys = open_after_then n b xs ys
open_after_then n b (calls.Close m ∷ xs) ys = open_after_then n (if m == n then false else b) xs ys

last_after_then : (l : ℕ) (xs ys : List LinkCall) → last_after l (xs ++ ys) ≡ last_after (last_after l xs) ys
last_after_then l [] ys = refl
last_after_then l (calls.Poll wait None ∷ xs) ys = last_after_then l xs ys
last_after_then l (calls.Poll wait (Some shown) ∷ xs) ys = last_after_then (last_of_events l shown) xs ys
last_after_then l (calls.Read m room got ∷ xs) ys = last_after_then l xs ys
last_after_then l (calls.Write m piece got ∷ xs) ys = last_after_then l xs ys
last_after_then l (calls.Close m ∷ xs) ys = last_after_then l xs ys

-- ---- one event more

above_then : (last n : ℕ) (shown : List LinkEvent) → AreAbove last shown → last_of_events last shown < n → AreAbove last (shown ++ events.New n ∷ [])
above_then last n [] h more = (more, tt)
above_then last n (events.New m ∷ shown) h more =
    let below : last < m = h.0 in
    let most : max last m ≡ m = omega arith in
    (below, above_then m n shown h.1 (subst (λ l. last_of_events l shown < n) most more))
above_then last n (events.Readable m ∷ shown) h more = above_then last n shown h more
above_then last n (events.Writable m ∷ shown) h more = above_then last n shown h more

readable_then : (last n : ℕ) (shown : List LinkEvent) → AreAbove last shown → AreAbove last (shown ++ events.Readable n ∷ [])
readable_then last n [] h = tt
readable_then last n (events.New m ∷ shown) h = (h.0, readable_then m n shown h.1)
readable_then last n (events.Readable m ∷ shown) h = readable_then last n shown h
readable_then last n (events.Writable m ∷ shown) h = readable_then last n shown h

writable_then : (last n : ℕ) (shown : List LinkEvent) → AreAbove last shown → AreAbove last (shown ++ events.Writable n ∷ [])
writable_then last n [] h = tt
writable_then last n (events.New m ∷ shown) h = (h.0, writable_then m n shown h.1)
writable_then last n (events.Readable m ∷ shown) h = writable_then last n shown h
writable_then last n (events.Writable m ∷ shown) h = writable_then last n shown h

last_then : (last : ℕ) (shown more : List LinkEvent) → last_of_events last (shown ++ more) ≡ last_of_events (last_of_events last shown) more
last_then last [] more = refl
last_then last (events.New m ∷ shown) more = last_then (max last m) shown more
last_then last (events.Readable m ∷ shown) more = last_then last shown more
last_then last (events.Writable m ∷ shown) more = last_then last shown more

shown_open_then : (n : ℕ) (b : Bool) (shown more : List LinkEvent) → is_open_after_events n b (shown ++ more) ≡ is_open_after_events n (is_open_after_events n b shown) more
shown_open_then n b [] more = refl
shown_open_then n b (events.New m ∷ shown) more = shown_open_then n (b || (m == n)) shown more
shown_open_then n b (events.Readable m ∷ shown) more = shown_open_then n b shown more
shown_open_then n b (events.Writable m ∷ shown) more = shown_open_then n b shown more

or_none : (a : Bool) → (a || false) ≡ a
or_none true = refl
or_none false = refl

or_then : (a b c : Bool) → ((a || b) || c) ≡ (a || (b || c))
or_then true b c = refl
or_then false b c = refl

among_then : (n m : ℕ) (numbers : List ℕ) → is_among n (numbers ++ m ∷ []) ≡ (is_among n numbers || (m == n))
among_then n m [] = or_none (m == n)
among_then n m (k ∷ numbers) = ap (λ b. (k == n) || b) (among_then n m numbers) ∙ sym (or_then (k == n) (is_among n numbers) (m == n))

pub shows_too : (last : ℕ) (numbers : List ℕ) (shown : List LinkEvent) (l : ℕ) (ns : List ℕ) (event : LinkEvent) (l_now : ℕ) (ns_now : List ℕ)
    → Shows last numbers shown l ns → Steps (Some event) l ns l_now ns_now → Shows last numbers (shown ++ event ∷ []) l_now ns_now
shows_too last numbers shown l ns (events.New m) l_now ns_now s step =
    let most : max l m ≡ m = let h : l < m = step.0 in omega arith in
    record {
      above = above_then last m shown s.above (subst (λ k. k < m) s.last_is step.0);
      last_is = step.1 ∙ sym most ∙ ap (λ k. max k m) s.last_is ∙ sym (last_then last shown (events.New m ∷ []));
      open_are = λ n. ap (is_among n) step.2 ∙ among_then n m ns ∙ ap (λ b. b || (m == n)) (s.open_are n) ∙ sym (shown_open_then n (is_among n numbers) shown (events.New m ∷ []));
    }
shows_too last numbers shown l ns (events.Readable m) l_now ns_now s step = record {
  above = readable_then last m shown s.above;
  last_is = step.0 ∙ s.last_is ∙ sym (last_then last shown (events.Readable m ∷ []));
  open_are = λ n. ap (is_among n) step.1 ∙ s.open_are n ∙ sym (shown_open_then n (is_among n numbers) shown (events.Readable m ∷ []));
}
shows_too last numbers shown l ns (events.Writable m) l_now ns_now s step = record {
  above = writable_then last m shown s.above;
  last_is = step.0 ∙ s.last_is ∙ sym (last_then last shown (events.Writable m ∷ []));
  open_are = λ n. ap (is_among n) step.1 ∙ s.open_are n ∙ sym (shown_open_then n (is_among n numbers) shown (events.Writable m ∷ []));
}

-- ---- a close

eq_is : (a b : ℕ) → (a == b) ≡ true → a ≡ b
eq_is a b e = grind (arith, nat_tests)

eq_same : (k link n : ℕ) → (k == link) ≡ true → (k == n) ≡ (link == n)
eq_same k link n e = ap (λ m. m == n) (eq_is k link e)

eq_other : (k link n : ℕ) → (link == n) ≡ true → (k == link) ≡ false → (k == n) ≡ false
eq_other k link n e other = ap (λ m. k == m) (sym (eq_is link n e)) ∙ other

kept_among : (n k : ℕ) (is_n is_link rest : Bool) (others : List ℕ) → is_among n others ≡ (if is_n then false else rest)
    → (is_link ≡ true → (k == n) ≡ is_n) → (is_n ≡ true → is_link ≡ false → (k == n) ≡ false)
    → is_among n (cond (not is_link) (k ∷ others) others) ≡ (if is_n then false else ((k == n) || rest))
kept_among n k true true rest others h f g = h
kept_among n k false true rest others h f g = h ∙ ap (λ b. b || rest) (sym (f refl))
kept_among n k true false rest others h f g = ap (λ b. b || is_among n others) (g refl refl) ∙ h
kept_among n k false false rest others h f g = ap (λ b. (k == n) || b) h

none_either : (b : Bool) → false ≡ (if b then false else false)
none_either true = refl
none_either false = refl

-- without a number, each other one is among the rest
among_filter : (n link : ℕ) (numbers : List ℕ) → is_among n (filter (λ m. not (m == link)) numbers) ≡ (if link == n then false else is_among n numbers)
among_filter n link [] = none_either (link == n)
among_filter n link (k ∷ numbers) = kept_among n k (link == n) (k == link) (is_among n numbers) (filter (λ m. not (m == link)) numbers) (among_filter n link numbers) (eq_same k link n) (eq_other k link n)

not_among : (b : Bool) (any : Bool) → (b ≡ true → any ≡ false) → any ≡ (if b then false else any)
not_among true any e = e refl
not_among false any e = refl

pub after_close : (trace trace_now : List LinkCall) (last last_now : ℕ) (numbers numbers_now : List ℕ) (link : ℕ) → trace_now ≡ trace ++ calls.Close link ∷ [] → last_now ≡ last
    → numbers_now ≡ filter (λ m. not (m == link)) numbers → Tells trace last numbers → Tells trace_now last_now numbers_now
after_close trace trace_now last last_now numbers numbers_now link e le ne t = record {
  last_is = ap last_in e ∙ last_after_then 0 trace (calls.Close link ∷ []) ∙ t.last_is ∙ sym le;
  open_are = λ n. ap (λ made. is_open_in made n) e ∙ open_after_then n false trace (calls.Close link ∷ []) ∙ ap (λ b. if link == n then false else b) (t.open_are n) ∙ sym (among_filter n link numbers) ∙ ap (is_among n) (sym ne);
}

pub after_no_close : (trace : List LinkCall) (last last_now : ℕ) (numbers numbers_now : List ℕ) (link : ℕ) → last_now ≡ last
    → numbers_now ≡ filter (λ m. not (m == link)) numbers → is_among link numbers ≡ false → Tells trace last numbers → Tells trace last_now numbers_now
after_no_close trace last last_now numbers numbers_now link le ne none t = record {
  last_is = t.last_is ∙ sym le;
  open_are = λ n. t.open_are n ∙ not_among (link == n) (is_among n numbers) (λ e. ap (λ m. is_among m numbers) (sym (eq_is link n e)) ∙ none) ∙ sym (among_filter n link numbers) ∙ ap (is_among n) (sym ne);
}

-- ---- the other calls, by what stands after them

pub after_read : (trace trace_now : List LinkCall) (last last_now : ℕ) (numbers numbers_now : List ℕ) (link room : ℕ) (got : ReadGot) → trace_now ≡ trace ++ calls.Read link room got ∷ [] → last_now ≡ last
    → numbers_now ≡ numbers → Tells trace last numbers → Tells trace_now last_now numbers_now
after_read trace trace_now last last_now numbers numbers_now link room got e le ne t = record {
  last_is = ap last_in e ∙ last_after_then 0 trace (calls.Read link room got ∷ []) ∙ t.last_is ∙ sym le;
  open_are = λ n. ap (λ made. is_open_in made n) e ∙ open_after_then n false trace (calls.Read link room got ∷ []) ∙ t.open_are n ∙ ap (is_among n) (sym ne);
}

pub after_write : (trace trace_now : List LinkCall) (last last_now : ℕ) (numbers numbers_now : List ℕ) (link : ℕ) (piece : List ℕ) (got : WriteGot) → trace_now ≡ trace ++ calls.Write link piece got ∷ [] → last_now ≡ last
    → numbers_now ≡ numbers → Tells trace last numbers → Tells trace_now last_now numbers_now
after_write trace trace_now last last_now numbers numbers_now link piece got e le ne t = record {
  last_is = ap last_in e ∙ last_after_then 0 trace (calls.Write link piece got ∷ []) ∙ t.last_is ∙ sym le;
  open_are = λ n. ap (λ made. is_open_in made n) e ∙ open_after_then n false trace (calls.Write link piece got ∷ []) ∙ t.open_are n ∙ ap (is_among n) (sym ne);
}

pub after_failed : (trace trace_now : List LinkCall) (last last_now : ℕ) (numbers numbers_now : List ℕ) (wait : Bool) → trace_now ≡ trace ++ calls.Poll wait None ∷ [] → last_now ≡ last
    → numbers_now ≡ numbers → Tells trace last numbers → Tells trace_now last_now numbers_now
after_failed trace trace_now last last_now numbers numbers_now wait e le ne t = record {
  last_is = ap last_in e ∙ last_after_then 0 trace (calls.Poll wait None ∷ []) ∙ t.last_is ∙ sym le;
  open_are = λ n. ap (λ made. is_open_in made n) e ∙ open_after_then n false trace (calls.Poll wait None ∷ []) ∙ t.open_are n ∙ ap (is_among n) (sym ne);
}

pub after_poll : (trace trace_now : List LinkCall) (last l last_now : ℕ) (numbers ns numbers_now : List ℕ) (wait : Bool) (shown told : List LinkEvent)
    → trace_now ≡ trace ++ calls.Poll wait (Some told) ∷ [] → told ≡ shown → l ≡ last → ns ≡ numbers → Tells trace last numbers → Shows l ns shown last_now numbers_now → Tells trace_now last_now numbers_now
after_poll trace trace_now last l last_now numbers ns numbers_now wait shown told e te le ne t s =
    let joined : trace_now ≡ trace ++ calls.Poll wait (Some shown) ∷ [] = e ∙ ap (λ told. trace ++ calls.Poll wait (Some told) ∷ []) te in
    record {
      last_is = ap last_in joined ∙ last_after_then 0 trace (calls.Poll wait (Some shown) ∷ []) ∙ ap (λ k. last_of_events k shown) (t.last_is ∙ sym le) ∙ sym s.last_is;
      open_are = λ n. ap (λ made. is_open_in made n) joined ∙ open_after_then n false trace (calls.Poll wait (Some shown) ∷ []) ∙ ap (λ b. is_open_after_events n b shown) (t.open_are n ∙ ap (is_among n) (sym ne)) ∙ sym (s.open_are n);
    }
