-- Where memory runs out in a step: the tables keep their sizes.
use Rattle.std.proofs.Common.{◌≡◌, ◌≢◌, refl, ℕ, zero, suc, ◌⊎◌, inl, inr, ⊎_elim, Bool, true, List, [], ◌∷◌, length, slice_set, Option, Some, None, option_map, Result, Ok, Err, OnErr, ap, sym, ◌∙◌, subst}
use Rattle.std.proofs.Math.ListN.{length-set}
use Rattle.std.proofs.lemmas.Option.{same_Some}
use Rattle.std.specs.Prelude.{slice_get}
use Rattle.atomic_table.proofs.Lists.{at_set}
use mathlib.Core.Option as core
use lib.ListN.{get_elem?}
use Rattle.brpc_model.specs.ReturnedLink.{LinkEnd}
use Rattle.sock_io.specs.LinkHalves.{OutState, InState}
use Rattle.seat_programs.specs.Asides.{Taking}
use Rattle.seat_programs.specs.TableSteps as calls
use Rattle.machine_model.specs.MachineLinks.{LinksData, AreAlwaysReady, TellClosing}
use Rattle.machine_model.specs.Machines.{MachineState, TableState, table_of}
use Rattle.machine_model.specs.ReadingSteps.{IsCutTable, IsCutShort, TakenFrom}
use Rattle.machine_model.specs.MachineRuns.{SameLink}
use Rattle.machine_model.specs.MachineSteps.{AsMany, OutsAfter, holders_after}
use Rattle.machine_model.proofs.Same.{same_link_none}
use Rattle.machine_model.proofs.MachineLengths.{length_holders, length_outs, many_same}

-- a link that is the same
each_same : (es es' : List LinkEnd) → es' ≡ es → (k : ℕ) (a b : LinkEnd) → slice_get es k ≡ Some a → slice_get es' k ≡ Some b → SameLink a b
each_same es es' e k a b at also = subst (SameLink a) (same_Some a b (sym at ∙ ap (λ (xs : List LinkEnd). slice_get xs k) (sym e) ∙ also)) (same_link_none a)

prompt_same : (l l' : LinksData) → l'.outs ≡ l.outs → AreAlwaysReady l → AreAlwaysReady l'
prompt_same l l' same always_ready k out at = always_ready k out (sym (ap (λ (os : List OutState). get_elem? os k) same) ∙ at)

tell_same : (l l' : LinksData) → l'.inns ≡ l.inns → TellClosing l → TellClosing l'
tell_same l l' same tell k inn at = tell k inn (sym (ap (λ (is : List InState). get_elem? is k) same) ∙ at)

module _ (t u : TableState) (plan : u.plan ≡ t.plan) (ids : u.ids.plan ≡ t.ids.plan) (own : u.calls ≡ t.calls) (ending : u.ending ≡ t.ending) where
  cut_by : AsMany t u → length u.ends ≡ length t.ends → ((k : ℕ) (a b : LinkEnd) → slice_get t.ends k ≡ Some a → slice_get u.ends k ≡ Some b → SameLink a b) → (AreAlwaysReady t.links → AreAlwaysReady u.links) → (TellClosing t.links → TellClosing u.links) → IsCutTable t u
  cut_by many as_many each always_ready tell = record {
    plans = record { plan = plan; id_plan = ids; calls = own; ending = ending };
    many = many;
    as_many = as_many;
    each = each;
    always_ready = always_ready;
    tell = tell;
  }

  -- but for words, ids and outcomes nothing changed
  pub cut_ids : length u.letters ≡ length t.letters → u.links ≡ t.links → u.ends ≡ t.ends → length u.outcomes ≡ length t.outcomes → IsCutTable t u
  cut_ids letters links ends outcomes =
      cut_by (many_same letters links outcomes) (ap length ends) (each_same t.ends u.ends ends) (prompt_same t.links u.links (ap (λ (l : LinksData). l.outs) links)) (tell_same t.links u.links (ap (λ (l : LinksData). l.inns) links))

  -- what is told of the links didn't change
  pub cut_halves : length u.letters ≡ length t.letters → length u.links.holders ≡ length t.links.holders → length u.links.nexts ≡ length t.links.nexts → u.links.outs ≡ t.links.outs → u.links.inns ≡ t.links.inns → u.ends ≡ t.ends → length u.outcomes ≡ length t.outcomes → IsCutTable t u
  cut_halves letters holders nexts outs inns ends outcomes = cut_by (record { letters = letters; holders = holders; nexts = nexts; outs = ap length outs; inns = ap length inns; outcomes = outcomes }) (ap length ends) (each_same t.ends u.ends ends) (prompt_same t.links u.links outs) (tell_same t.links u.links inns)

pub on_err : {A E : Type 0} (r : Result A E) {Q : Type 0} → Q → OnErr r Q
on_err (Ok a) q = tt
on_err (Err e) q = q

-- nothing did
pub cut_none : {t u : TableState} → u ≡ t → IsCutTable t u
cut_none {t} {u} e = cut_ids t u (ap (λ (x : TableState). x.plan) e) (ap (λ (x : TableState). x.ids.plan) e) (ap (λ (x : TableState). x.calls) e) (ap (λ (x : TableState). x.ending) e) (ap (λ (x : TableState). length x.letters) e)
    (ap (λ (x : TableState). x.links) e) (ap (λ (x : TableState). x.ends) e) (ap (λ (x : TableState). length x.outcomes) e)

pub cut_along : {s t u : TableState} → s ≡ t → IsCutTable s u → IsCutTable t u
cut_along {s} {t} {u} e h = subst (λ (x : TableState). IsCutTable x u) e h

-- ## Behind a step on a word

prompt_set : (l l' : LinksData) (k : ℕ) (out out' : OutState) → get_elem? l.outs k ≡ core.some out → l'.outs ≡ slice_set l.outs k out' → out'.always_ready ≡ out.always_ready → AreAlwaysReady l → AreAlwaysReady l'
prompt_set l l' k out out' at outs same always_ready j other there = ⊎_elim
    (λ a. subst (λ (o : OutState). o.always_ready ≡ true) a.1 (same ∙ always_ready k out at))
    (λ a. always_ready j other a.1)
    (at_set l.outs k j out' other (sym (ap (λ (os : List OutState). get_elem? os j) outs) ∙ there))

prompt_call : (call : calls.TableStep) (l l' : LinksData) → OutsAfter call l.outs l'.outs → AreAlwaysReady l → AreAlwaysReady l'
prompt_call (calls.OnLink (calls.FinishLink k)) l l' o = prompt_set l l' k o.0 o.1 o.2 o.3 o.4.same.always_ready
prompt_call _ l l' o = prompt_same l l' o

pub cut_call : (t u : TableState) (i : ℕ) (call : calls.TableStep) → u.plan ≡ t.plan → u.ids.plan ≡ t.ids.plan → u.calls ≡ t.calls → u.ending ≡ t.ending → length u.letters ≡ length t.letters → u.links.holders ≡ holders_after i call t.links.holders → u.links.nexts ≡ t.links.nexts →
    OutsAfter call t.links.outs u.links.outs → u.links.inns ≡ t.links.inns → u.ends ≡ t.ends → length u.outcomes ≡ length t.outcomes → IsCutTable t u
cut_call t u i call plan ids own ending letters holders nexts outs inns ends outcomes = cut_by t u plan ids own ending
    (record { letters = letters; holders = ap length holders ∙ length_holders i call t.links.holders; nexts = ap length nexts; outs = length_outs call t.links.outs u.links.outs outs; inns = ap length inns; outcomes = outcomes })
    (ap length ends) (each_same t.ends u.ends ends) (prompt_call call t.links u.links outs) (tell_same t.links u.links inns)

-- ## Behind a take

first_is : (es : List LinkEnd) (n : ℕ) (a b : LinkEnd) → get_elem? es n ≡ core.some a → slice_get es n ≡ Some b → a ≡ b
first_is [] n a b e f = cc
first_is (x ∷ xs) zero a b e f = cc
first_is (x ∷ xs) (suc n) a b e f = first_is xs n a b e f

as_elem : (es : List LinkEnd) (n : ℕ) (a : LinkEnd) → slice_get es n ≡ Some a → get_elem? es n ≡ core.some a
as_elem [] n a e = cc
as_elem (x ∷ xs) zero a e = cc
as_elem (x ∷ xs) (suc n) a e = as_elem xs n a e

each_set : (es es' : List LinkEnd) (k : ℕ) (before behind : LinkEnd) → get_elem? es k ≡ core.some before → es' ≡ slice_set es k behind → SameLink before behind → (j : ℕ) (a b : LinkEnd) → slice_get es j ≡ Some a → slice_get es' j ≡ Some b → SameLink a b
each_set es es' k before behind at is same j a b there also = ⊎_elim
    (λ here. let x_is : before ≡ a = first_is es k before a at (subst (λ n. slice_get es n ≡ Some a) here.0 there) in subst (SameLink a) here.1 (subst (λ (x : LinkEnd). SameLink x behind) x_is same))
    (λ else_. let y_is : a ≡ b = core.some-injective a b (sym (as_elem es j a there) ∙ else_.1) in subst (SameLink a) y_is (same_link_none a))
    (at_set es k j behind b (as_elem (slice_set es k behind) j b (ap (λ (xs : List LinkEnd). slice_get xs j) (sym is) ∙ also)))

some_known : (o : Option Bool) → o ≢ None → option_map (λ _. true) o ≢ None
some_known None known e = known refl
some_known (Some x) known e = cc

tell_set : (l l' : LinksData) (k : ℕ) (inn inn' : InState) → get_elem? l.inns k ≡ core.some inn → l'.inns ≡ slice_set l.inns k inn' → (inn'.closing ≡ inn.closing) ⊎ (inn'.closing ≡ option_map (λ _. true) inn.closing) → TellClosing l → TellClosing l'
tell_set l l' k inn inn' at inns closing tell j other there = ⊎_elim
    (λ a. subst (λ (i : InState). i.closing ≢ None) a.1 (⊎_elim
    (λ c e. tell k inn at (sym c ∙ e))
    (λ c e. some_known inn.closing (tell k inn at) (sym c ∙ e)) closing))
    (λ a. tell j other a.1)
    (at_set l.inns k j inn' other (sym (ap (λ (is : List InState). get_elem? is j) inns) ∙ there))

pub cut_take : (t u : TableState) (k n : ℕ) (taking : Taking) → TakenFrom t u k n taking → u.plan ≡ t.plan → u.ids.plan ≡ t.ids.plan → u.calls ≡ t.calls → u.ending ≡ t.ending → u.letters ≡ t.letters → u.links.holders ≡ t.links.holders → u.links.nexts ≡ t.links.nexts → u.links.outs ≡ t.links.outs →
    length u.outcomes ≡ length t.outcomes → IsCutTable t u
cut_take t u k n taking from plan ids own ending letters holders nexts outs outcomes = cut_by t u plan ids own ending
    (record { letters = ap length letters; holders = ap length holders; nexts = ap length nexts; outs = ap length outs; inns = ap length from.inns_are ∙ length-set t.links.inns k from.inn'; outcomes = outcomes })
    (ap length from.ends_are ∙ length-set t.ends k from.behind) (each_set t.ends u.ends k from.before from.behind from.end_at from.ends_are from.same) (prompt_same t.links u.links outs)
    (tell_set t.links u.links k from.inn from.inn' from.at from.inns_are (⊎_elim (λ c. inl c) (λ c. inr c.1) from.closing))

-- ## Of a machine

pub cut_machine : (m fresh : MachineState) → IsCutTable (table_of m) (table_of fresh) → fresh.short ≡ true → fresh.opens ≡ m.opens → length fresh.seats ≡ length m.seats → length fresh.readers ≡ length m.readers → IsCutShort m fresh
cut_machine m fresh c short opens seats readers = record {
  short = short;
  table = c;
  opens = opens;
  seats = seats;
  readers = readers;
}

pub short_along : {m n fresh : MachineState} → m ≡ n → IsCutShort m fresh → IsCutShort n fresh
short_along {m} {n} {fresh} e h = subst (λ (x : MachineState). IsCutShort x fresh) e h
