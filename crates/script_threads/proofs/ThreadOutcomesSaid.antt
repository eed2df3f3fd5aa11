-- The outcomes of a run, as they are put together and reported.
use Rattle.std.proofs.Common.{◌≡◌, ℕ, List, ◌++◌, map, sym, ap, ◌∙◌, subst}
use Rattle.std.specs.Prelude.{Option}
use Rattle.std.proofs.lemmas.List.{map-append}
use Rattle.brpc_model.specs.Items.{Item}
use Rattle.brpc_model.specs.ReturnedLink.{LinkEnd}
use Rattle.brpc_model.specs.PlaceWords.{HasEachOutcome}
use Rattle.sock_words.specs.declared.outcome.Outcome.{Outcome}
use Rattle.sock_words.specs.declared.place_word.PlaceWord.{PlaceWord}
use Rattle.rpc_client.specs.declared.acting.Told.{Told}
use Rattle.script_parts.specs.ThreadScriptTold.{outcomes_of, IsReported}

-- what clients and readers told of calls that ended stands in one list
pub outcomes_are : {V : Type 0} (f : V → List Told) (n : ℕ) (told : List (List Told)) (ended read both : List V) (last : List Told) (said : List (Option Outcome)) → both ≡ ended ++ read → said ≡ outcomes_of n told (map f both) last → said ≡ outcomes_of n told (map f ended ++ map f read) last
outcomes_are f n told ended read both last said eb es = es ∙ ap (λ (l : List (List Told)). outcomes_of n told l last) (ap (map f) eb ∙ map-append f ended read)

pub each_of : (words places : List PlaceWord) (said : List (Option Outcome)) (n many : ℕ) (told tellers : List (List Told)) (last : List Told) → words ≡ places → said ≡ outcomes_of n told tellers last → n ≡ many → HasEachOutcome places (outcomes_of many told tellers last) → HasEachOutcome words said
each_of words places said n many told tellers last ew es en h =
    subst (λ (l : List PlaceWord). HasEachOutcome l said) (sym ew) (subst (HasEachOutcome places) (sym (es ∙ ap (λ (m : ℕ). outcomes_of m told tellers last) en)) h)

pub reported_of : (script : List Item) (text : List ℕ) (said outcomes : List (Option Outcome)) (words places : List PlaceWord) (ends : List LinkEnd) → words ≡ places → said ≡ outcomes → IsReported script text said words ends → IsReported script text outcomes places ends
reported_of script text said outcomes words places ends ew es h = subst (λ (l : List PlaceWord). IsReported script text outcomes l ends) ew (subst (λ (l : List (Option Outcome)). IsReported script text l words ends) es h)
