use Rattle.std.proofs.Common.{◌≡◌, ◌≤◌, ◌∙◌, ℕ, Bool, true, List, [], ◌∷◌, Option, Ok, refl, sym, subst, inr}
use Rattle.std.proofs.lemmas.List.{nil_from_length}
use Rattle.std.proofs.lemmas.Result.{err_from_is_err_and}
use Rattle.std.specs.Prelude.{Result}
use Rattle.mesh_base.specs.declared.memory.Memory.{Memory}
use Rattle.session_core.specs.declared.session.Ask.{Ask}
use Rattle.route_match.specs.Matching.{Pat}
use Rattle.feed_history.specs.KnownPatterns.{goes_on_further, known_of, known_over}
use Rattle.serve_core.specs.Hearing.{IsCutShort, IsDone, TakesEach}
use Rattle.serve_core.specs.declared.turning.Turning.{Turning}
use Rattle.serve_core.proofs.turning.Turning.take_asks.Goals as goal

-- nothing is left to do
does_none : (number : ℕ) (tells : Option Pat) (refuses : Option (List ℕ → Bool)) (asked : List Ask) (before : ℕ) (old : Turning) (answers : List (List ℕ)) → asked ≡ [] → TakesEach number tells refuses asked before old answers (Ok true) before old answers
does_none number tells refuses asked before old answers none =
    subst (λ (rest : List Ask). TakesEach number tells refuses rest before old answers (Ok true) before old answers) (sym none) (refl, refl, refl, refl)

-- the first is done, by what was known of patterns from the start, and then the rest
does_first : (number : ℕ) (tells tells_now : Option Pat) (refuses refuses_now : Option (List ℕ → Bool)) (ask : Ask) (asked more : List Ask) (before mid : ℕ) (old between : Turning) (answers answers_mid : List (List ℕ)) (goes : Bool)
    → tells_now ≡ tells → refuses_now ≡ refuses → asked ≡ ask ∷ more → before ≤ mid → goes ≡ true → IsDone number ask (known_of tells_now refuses_now before mid) old answers goes between answers_mid
    → (result : Result Bool Memory) (now : ℕ) (new : Turning) (answers_now : List (List ℕ)) → TakesEach number tells refuses more mid between answers_mid result now new answers_now → TakesEach number tells refuses asked before old answers result now new answers_now
does_first number tells tells_now refuses refuses_now ask asked more before mid old between answers answers_mid goes same_tells same_refuses first later passes done result now new answers_now rest =
    let passed : IsDone number ask (known_of tells_now refuses_now before mid) old answers true between answers_mid =
    subst (λ (b : Bool). IsDone number ask (known_of tells_now refuses_now before mid) old answers b between answers_mid) passes done in
    let refused : IsDone number ask (known_of tells_now refuses before mid) old answers true between answers_mid =
    subst (λ (r : Option (List ℕ → Bool)). IsDone number ask (known_of tells_now r before mid) old answers true between answers_mid) same_refuses passed in
    let known : IsDone number ask (known_of tells refuses before mid) old answers true between answers_mid =
    subst (λ (t : Option Pat). IsDone number ask (known_of t refuses before mid) old answers true between answers_mid) same_tells refused in
    subst (λ (all : List Ask). TakesEach number tells refuses all before old answers result now new answers_now) (sym first) (inr (mid, between, answers_mid, later, known, rest))

pub loop-ask-preserved : goal.loop-ask-preserved
loop-ask-preserved g c =
    let P = g.P.Patterns in
    let old = c.args.patterns.now in
    let now = c.loop-ask.patterns in
    let next = c.take_ask.new.patterns in
    let on = c.loop-ask.invariant.goes_on in
    let further = c.in_ok-take_ask.ensures.goes_on in
    record {
      some = c.in_ok-take_ask.ensures.some c.loop-ask.invariant.some;
      each = λ result count new answers_now rest. c.loop-ask.invariant.each result count new answers_now
          (does_first c.args.number (P.tells old) (P.tells now) (P.refuses old) (P.refuses now) c.in-Some.ask c.loop-ask.ask-iterator.rest.items c.next.new.self.rest.items (P.refusals now) (P.refusals next) c.loop-ask.self c.take_ask.new.self c.loop-ask.answers c.take_ask.new.answers
          c.in_ok-take_ask.field-0 on.same_tells on.same_refuses c.in-Some.ensures.steps.0 further.later c.if-not-branch.false c.in_ok-take_ask.ensures.takes result count new answers_now rest);
      drains = c.in_ok-take_ask.ensures.drains ∙ c.loop-ask.invariant.drains;
      goes_on = goes_on_further on further;
    }

pub returns-in_err-put-clause-takes : goal.returns-in_err-put-clause-takes
returns-in_err-put-clause-takes g c =
    let P = g.P.Patterns in
    let old = c.args.patterns.now in
    let now = c.loop-ask.patterns in
    let none : c.loop-ask.ask-iterator.rest.items ≡ [] = nil_from_length _ (sym c.loop-ask.ask-iterator.rest.ok.0 ∙ c.in-None.ensures.steps.0) in
    let last = does_none c.args.number (P.tells old) (P.refuses old) c.loop-ask.ask-iterator.rest.items (P.refusals now) c.loop-ask.self c.loop-ask.answers none in
    let cut : IsCutShort c.args.number c.args.asks (known_over P old now) c.args.self.now =
    record { result = Ok true; between = c.loop-ask.self; answers = c.loop-ask.answers; each = c.loop-ask.invariant.each (Ok true) (P.refusals now) c.loop-ask.self c.loop-ask.answers last } in
    let p = err_from_is_err_and c.from_residual-in_err-put.result c.from_residual-in_err-put.ensures.1 in
    rw p.1 cut

pub returns-clause-takes : goal.returns-clause-takes
returns-clause-takes g c =
    let P = g.P.Patterns in
    let old = c.args.patterns.now in
    let now = c.loop-ask.patterns in
    let none : c.loop-ask.ask-iterator.rest.items ≡ [] = nil_from_length _ (sym c.loop-ask.ask-iterator.rest.ok.0 ∙ c.in-None.ensures.steps.0) in
    let last = does_none c.args.number (P.tells old) (P.refuses old) c.loop-ask.ask-iterator.rest.items (P.refusals now) c.loop-ask.self c.loop-ask.answers none in
    record {
      between = c.loop-ask.self;
      answers = c.loop-ask.answers;
      each = c.loop-ask.invariant.each (Ok true) (P.refusals now) c.loop-ask.self c.loop-ask.answers last;
      same = refl;
      entries = c.in_ok-put.ensures.entries;
      settled = c.in_ok-put.ensures.settled;
    }
