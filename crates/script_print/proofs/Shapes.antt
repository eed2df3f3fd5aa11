-- The options of an `open`: what was read is printed so that it is read again as the same.
use Rattle.std.proofs.Common.{◌≡◌, ℕ, Bool, true, false, if◌then◌else◌, ◌||◌, not, nat_eq, ◌==◌, List, [], ◌∷◌, ◌++◌, drop, map, filter, flat_map, decimal, bytes_eq, codes, IfOk, IfSome, Ok, Err, Option, Some, None, refl, ap, sym, ◌∙◌, append-nil, append_assoc, arith}
use Rattle.std.specs.List.{list_all, list_any, starts_with}
use Rattle.std.proofs.lemmas.Bool.{and_from, cond-true, cond-false}
use Rattle.sock_words.specs.PrintedWords.{word}
use Rattle.brpc_model.specs.Text.{number_in}
use Rattle.brpc_model.specs.LinePartReads.{Reads, ◌<*>◌, values_of, option_in, are_known}
use Rattle.brpc_model.specs.Items.{Shape}
use Rattle.brpc_model.specs.ScriptLineFaults.{shape_in}
use Rattle.brpc_model.specs.ScriptText.{option_text, end_text, shape_text}
use Rattle.script_print.proofs.Spaced.{is_word}
use Rattle.script_print.proofs.Gives.{with_part, of_part, of_parts, of_part_test}
use Rattle.script_print.proofs.TokensReadAgain.{IsWithin, number_within, number_back, decimal_word}
use Rattle.script_print.proofs.PartLemmas.{unless, all_unless, behind_key, of_option, IsOption, number_option, number_option_back, number_option_word, word_parts}

-- ## The shape of a link

pub record IsShape (s : Shape) : Type 0 where
  pub piece_in : IsOption 65536 1 65536 s.piece
  pub again_in : IsOption 0 2 65536 s.again
  pub fail_in : IsOption 0 1 65536 s.fail
  pub end_in : IfSome s.end (IsWithin 0 65536)

ended : (w : List ℕ) → IfOk (Ok (λ n. Some n) <*> number_in 0 65536 w) (λ o. IfSome o (IsWithin 0 65536))
ended w = of_part (λ n. Some n) (number_in 0 65536 w) (IsWithin 0 65536) (λ o. IfSome o (IsWithin 0 65536)) (number_within 0 65536 w) (λ n h. h)

pub shaped : (ws : List (List ℕ)) → IfOk (shape_in ws) IsShape
shaped ws =
    let piece = option_in (number_in 1 65536) 65536 (values_of (codes "piece=") ws) in
    let again = option_in (number_in 2 65536) 0 (values_of (codes "again=") ws) in
    let fail = option_in (number_in 1 65536) 0 (values_of (codes "fail=") ws) in
    let end = option_in (λ w. Ok (λ n. Some n) <*> number_in 0 65536 w) None (values_of (codes "end=") ws) in
    let serve = option_in (λ w. Ok true) false (filter (bytes_eq (codes "serve")) ws) in
    let make : ℕ → ℕ → ℕ → Option ℕ → Bool → Shape = λ piece again fail end serve. record { piece = piece; again = again; fail = fail; serve = serve; end = end } in
    of_part_test (are_known (codes "piece=" ∷ codes "again=" ∷ codes "fail=" ∷ codes "end=" ∷ []) (codes "serve" ∷ []) ws) (Ok make <*> piece <*> again <*> fail <*> end <*> serve) 3 IsShape
    (λ known. with_part (Ok make <*> piece <*> again <*> fail <*> end) serve
    (λ g. (s : Bool) → IsShape (g s)) (λ s. Unit {0}) IsShape
    (with_part (Ok make <*> piece <*> again <*> fail) end
    (λ g. (e : Option ℕ) (s : Bool) → IfSome e (IsWithin 0 65536) → IsShape (g e s)) (λ o. IfSome o (IsWithin 0 65536)) (λ g. (s : Bool) → IsShape (g s))
    (of_triple make piece again fail (number_option 65536 1 65536 (values_of (codes "piece=") ws)) (number_option 0 2 65536 (values_of (codes "again=") ws)) (number_option 0 1 65536 (values_of (codes "fail=") ws))
    (λ p a f hp ha hf e s he. record { piece_in = hp; again_in = ha; fail_in = hf; end_in = he }))
    (of_option (λ w. Ok (λ n. Some n) <*> number_in 0 65536 w) None (values_of (codes "end=") ws) (λ o. IfSome o (IsWithin 0 65536)) tt ended)
    (λ g e h he s. h e s he))
    (of_option (λ w. Ok true) false (filter (bytes_eq (codes "serve")) ws) (λ s. Unit {0}) tt (λ w. tt))
    (λ g s h hs. h s))
  where
    of_triple : (make : ℕ → ℕ → ℕ → Option ℕ → Bool → Shape) (piece again fail : Reads ℕ)
        → IfOk piece (IsOption 65536 1 65536) → IfOk again (IsOption 0 2 65536) → IfOk fail (IsOption 0 1 65536)
        → ((p a f : ℕ) → IsOption 65536 1 65536 p → IsOption 0 2 65536 a → IsOption 0 1 65536 f → (e : Option ℕ) (s : Bool) → IfSome e (IsWithin 0 65536) → IsShape (make p a f e s))
        → IfOk (Ok make <*> piece <*> again <*> fail) (λ g. (e : Option ℕ) (s : Bool) → IfSome e (IsWithin 0 65536) → IsShape (g e s))
    of_triple make piece again fail hp ha hf k =
        with_part (Ok make <*> piece <*> again) fail
        (λ g. (f : ℕ) → IsOption 0 1 65536 f → (e : Option ℕ) (s : Bool) → IfSome e (IsWithin 0 65536) → IsShape (g f e s)) (IsOption 0 1 65536) (λ g. (e : Option ℕ) (s : Bool) → IfSome e (IsWithin 0 65536) → IsShape (g e s))
        (of_parts make piece again (IsOption 65536 1 65536) (IsOption 0 2 65536) (λ g. (f : ℕ) → IsOption 0 1 65536 f → (e : Option ℕ) (s : Bool) → IfSome e (IsWithin 0 65536) → IsShape (g f e s)) hp ha
        (λ p a hp ha f hf e s he. k p a f hp ha hf e s he))
        hf (λ g f h hf. h f hf)

-- ` end=N` as words
abbrev pub end_words : Option ℕ → List (List ℕ)
end_words None = []
end_words (Some n) = (codes "end=" ++ decimal n) ∷ []

-- the options that differ from their defaults, and those of them from the second, the third and the fourth on
abbrev from_serve : Shape → List (List ℕ)
from_serve s = unless (not s.serve) (codes "serve") ++ end_words s.end

abbrev from_fail : Shape → List (List ℕ)
from_fail s = unless (s.fail == 0) (codes "fail=" ++ decimal s.fail) ++ from_serve s

abbrev from_again : Shape → List (List ℕ)
from_again s = unless (s.again == 0) (codes "again=" ++ decimal s.again) ++ from_fail s

abbrev pub shape_words : Shape → List (List ℕ)
shape_words s = unless (s.piece == 65536) (codes "piece=" ++ decimal s.piece) ++ from_again s

-- ### Read again

serve_only : (p : List ℕ → Bool) (e : Option ℕ) → ((n : ℕ) → p (codes "end=" ++ decimal n) ≡ false) → filter p (end_words e) ≡ []
serve_only p None h = refl
serve_only p (Some n) h = cond-false (p (codes "end=" ++ decimal n)) ((codes "end=" ++ decimal n) ∷ []) [] (h n)

shape_words_pass : (p : List ℕ → Bool) (s : Shape)
    → ((s.piece == 65536) ≡ false → p (codes "piece=" ++ decimal s.piece) ≡ true) → ((s.again == 0) ≡ false → p (codes "again=" ++ decimal s.again) ≡ true) → ((s.fail == 0) ≡ false → p (codes "fail=" ++ decimal s.fail) ≡ true)
    → p (codes "serve") ≡ true → ((n : ℕ) → s.end ≡ Some n → p (codes "end=" ++ decimal n) ≡ true) → list_all p (shape_words s) ≡ true
shape_words_pass p s hp ha hf hs he =
    all_unless p (s.piece == 65536) (codes "piece=" ++ decimal s.piece) (from_again s) hp
    (all_unless p (s.again == 0) (codes "again=" ++ decimal s.again) (from_fail s) ha
    (all_unless p (s.fail == 0) (codes "fail=" ++ decimal s.fail) (from_serve s) hf
    (all_unless p (not s.serve) (codes "serve") (end_words s.end) (λ e. hs) (last s.end he))))
  where
    last : (e : Option ℕ) → ((n : ℕ) → e ≡ Some n → p (codes "end=" ++ decimal n) ≡ true) → list_all p (end_words e) ≡ true
    last None h = refl
    last (Some n) h = and_from (p (codes "end=" ++ decimal n)) true (h n refl) refl

-- an option that stands, where it is picked
abbrev chosen : (List ℕ → Bool) → Bool → List ℕ → List (List ℕ)
chosen p default w = if p w then unless default w else []

chosen_on : (p : List ℕ → Bool) (default : Bool) (w : List ℕ) (rest : List (List ℕ)) → filter p (unless default w ++ rest) ≡ chosen p default w ++ filter p rest
chosen_on p true w rest = elim (p w) as (λ t. filter p rest ≡ (if t then [] else []) ++ filter p rest) [ true ↦ refl | false ↦ refl ]
chosen_on p false w rest = elim (p w) as (λ t. (if t then w ∷ filter p rest else filter p rest) ≡ (if t then w ∷ [] else []) ++ filter p rest) [ true ↦ refl | false ↦ refl ]

-- what a test picks of the options, one behind another
all_chosen : (p : List ℕ → Bool) (s : Shape) → filter p (shape_words s) ≡
    chosen p (s.piece == 65536) (codes "piece=" ++ decimal s.piece) ++ (chosen p (s.again == 0) (codes "again=" ++ decimal s.again) ++ (chosen p (s.fail == 0) (codes "fail=" ++ decimal s.fail)
    ++ (chosen p (not s.serve) (codes "serve") ++ filter p (end_words s.end))))
all_chosen p s =
    chosen_on p (s.piece == 65536) (codes "piece=" ++ decimal s.piece) (from_again s)
    ∙ ap (λ l. chosen p (s.piece == 65536) (codes "piece=" ++ decimal s.piece) ++ l) (chosen_on p (s.again == 0) (codes "again=" ++ decimal s.again) (from_fail s)
    ∙ ap (λ l. chosen p (s.again == 0) (codes "again=" ++ decimal s.again) ++ l) (chosen_on p (s.fail == 0) (codes "fail=" ++ decimal s.fail) (from_serve s)
    ∙ ap (λ l. chosen p (s.fail == 0) (codes "fail=" ++ decimal s.fail) ++ l) (chosen_on p (not s.serve) (codes "serve") (end_words s.end))))

-- a test that picks one of them and no end
one_chosen : (p : List ℕ → Bool) (s : Shape) (words : List (List ℕ)) → filter p (shape_words s) ≡ words ++ filter p (end_words s.end) → ((n : ℕ) → p (codes "end=" ++ decimal n) ≡ false) → filter p (shape_words s) ≡ words
one_chosen p s words one h = one ∙ ap (λ l. words ++ l) (serve_only p s.end h) ∙ append-nil words

piece_words : (s : Shape) → filter (λ w. starts_with nat_eq w (codes "piece=")) (shape_words s) ≡ unless (s.piece == 65536) (codes "piece=" ++ decimal s.piece)
piece_words s = let p : List ℕ → Bool = λ w. starts_with nat_eq w (codes "piece=") in one_chosen p s _ (all_chosen p s) (λ n. refl)

again_words : (s : Shape) → filter (λ w. starts_with nat_eq w (codes "again=")) (shape_words s) ≡ unless (s.again == 0) (codes "again=" ++ decimal s.again)
again_words s = let p : List ℕ → Bool = λ w. starts_with nat_eq w (codes "again=") in one_chosen p s _ (all_chosen p s) (λ n. refl)

fail_words : (s : Shape) → filter (λ w. starts_with nat_eq w (codes "fail=")) (shape_words s) ≡ unless (s.fail == 0) (codes "fail=" ++ decimal s.fail)
fail_words s = let p : List ℕ → Bool = λ w. starts_with nat_eq w (codes "fail=") in one_chosen p s _ (all_chosen p s) (λ n. refl)

serve_words : (s : Shape) → filter (bytes_eq (codes "serve")) (shape_words s) ≡ unless (not s.serve) (codes "serve")
serve_words s = one_chosen (bytes_eq (codes "serve")) s _ (all_chosen (bytes_eq (codes "serve")) s) (λ n. refl)

end_word : (s : Shape) → filter (λ w. starts_with nat_eq w (codes "end=")) (shape_words s) ≡ end_words s.end
end_word s = all_chosen (λ w. starts_with nat_eq w (codes "end=")) s ∙ kept s.end
  where
    kept : (e : Option ℕ) → filter (λ w. starts_with nat_eq w (codes "end=")) (end_words e) ≡ end_words e
    kept None = refl
    kept (Some n) = refl

end_back : (e : Option ℕ) → IfSome e (IsWithin 0 65536) → option_in (λ w. Ok (λ n. Some n) <*> number_in 0 65536 w) None (map (drop 4) (end_words e)) ≡ Ok e
end_back None h = refl
end_back (Some n) h = let top = h.to in ap (λ r. Ok (λ n. Some n) <*> r) (number_back 0 65536 n (omega arith) h)

serve_back : (serve : Bool) → option_in (λ w. Ok true) false (unless (not serve) (codes "serve")) ≡ Ok serve
serve_back true = refl
serve_back false = refl

pub shape_back : (s : Shape) → IsShape s → shape_in (shape_words s) ≡ Ok s
shape_back s h =
    let ws = shape_words s in
    let make : ℕ → ℕ → ℕ → Option ℕ → Bool → Shape = λ piece again fail end serve. record { piece = piece; again = again; fail = fail; serve = serve; end = end } in
    let piece : option_in (number_in 1 65536) 65536 (values_of (codes "piece=") ws) ≡ Ok s.piece =
    ap (λ vs. option_in (number_in 1 65536) 65536 (map (drop 6) vs)) (piece_words s)
    ∙ ap (option_in (number_in 1 65536) 65536) (behind_key 6 (s.piece == 65536) (codes "piece=" ++ decimal s.piece) (decimal s.piece) refl)
    ∙ number_option_back 65536 1 65536 s.piece (omega arith) h.piece_in in
    let again : option_in (number_in 2 65536) 0 (values_of (codes "again=") ws) ≡ Ok s.again =
    ap (λ vs. option_in (number_in 2 65536) 0 (map (drop 6) vs)) (again_words s)
    ∙ ap (option_in (number_in 2 65536) 0) (behind_key 6 (s.again == 0) (codes "again=" ++ decimal s.again) (decimal s.again) refl)
    ∙ number_option_back 0 2 65536 s.again (omega arith) h.again_in in
    let fail : option_in (number_in 1 65536) 0 (values_of (codes "fail=") ws) ≡ Ok s.fail =
    ap (λ vs. option_in (number_in 1 65536) 0 (map (drop 5) vs)) (fail_words s)
    ∙ ap (option_in (number_in 1 65536) 0) (behind_key 5 (s.fail == 0) (codes "fail=" ++ decimal s.fail) (decimal s.fail) refl)
    ∙ number_option_back 0 1 65536 s.fail (omega arith) h.fail_in in
    let end : option_in (λ w. Ok (λ n. Some n) <*> number_in 0 65536 w) None (values_of (codes "end=") ws) ≡ Ok s.end =
    ap (λ vs. option_in (λ w. Ok (λ n. Some n) <*> number_in 0 65536 w) None (map (drop 4) vs)) (end_word s) ∙ end_back s.end h.end_in in
    let serve : option_in (λ w. Ok true) false (filter (bytes_eq (codes "serve")) ws) ≡ Ok s.serve =
    ap (option_in (λ w. Ok true) false) (serve_words s) ∙ serve_back s.serve in
    let known : are_known (codes "piece=" ∷ codes "again=" ∷ codes "fail=" ∷ codes "end=" ∷ []) (codes "serve" ∷ []) ws ≡ true =
    shape_words_pass (λ w. list_any (bytes_eq w) (codes "serve" ∷ []) || list_any (starts_with nat_eq w) (codes "piece=" ∷ codes "again=" ∷ codes "fail=" ∷ codes "end=" ∷ [])) s (λ e. refl) (λ e. refl) (λ e. refl) refl (λ n e. refl) in
    cond-true (are_known (codes "piece=" ∷ codes "again=" ∷ codes "fail=" ∷ codes "end=" ∷ []) (codes "serve" ∷ []) ws)
    (Ok make <*> option_in (number_in 1 65536) 65536 (values_of (codes "piece=") ws) <*> option_in (number_in 2 65536) 0 (values_of (codes "again=") ws) <*> option_in (number_in 1 65536) 0 (values_of (codes "fail=") ws)
    <*> option_in (λ w. Ok (λ n. Some n) <*> number_in 0 65536 w) None (values_of (codes "end=") ws) <*> option_in (λ w. Ok true) false (filter (bytes_eq (codes "serve")) ws)) (Err 3) known
    ∙ ap (λ r. Ok make <*> r <*> option_in (number_in 2 65536) 0 (values_of (codes "again=") ws) <*> option_in (number_in 1 65536) 0 (values_of (codes "fail=") ws)
    <*> option_in (λ w. Ok (λ n. Some n) <*> number_in 0 65536 w) None (values_of (codes "end=") ws) <*> option_in (λ w. Ok true) false (filter (bytes_eq (codes "serve")) ws)) piece
    ∙ ap (λ r. Ok make <*> Ok s.piece <*> r <*> option_in (number_in 1 65536) 0 (values_of (codes "fail=") ws)
    <*> option_in (λ w. Ok (λ n. Some n) <*> number_in 0 65536 w) None (values_of (codes "end=") ws) <*> option_in (λ w. Ok true) false (filter (bytes_eq (codes "serve")) ws)) again
    ∙ ap (λ r. Ok make <*> Ok s.piece <*> Ok s.again <*> r <*> option_in (λ w. Ok (λ n. Some n) <*> number_in 0 65536 w) None (values_of (codes "end=") ws) <*> option_in (λ w. Ok true) false (filter (bytes_eq (codes "serve")) ws)) fail
    ∙ ap (λ r. Ok make <*> Ok s.piece <*> Ok s.again <*> Ok s.fail <*> r <*> option_in (λ w. Ok true) false (filter (bytes_eq (codes "serve")) ws)) end
    ∙ ap (λ r. Ok make <*> Ok s.piece <*> Ok s.again <*> Ok s.fail <*> Ok s.end <*> r) serve

-- ### The words of the text

pub option_words : (default : Bool) (w : List ℕ) (rest : List (List ℕ)) → flat_map word (unless default w ++ rest) ≡ (if default then [] else 32 ∷ w) ++ flat_map word rest
option_words true w rest = refl
option_words false w rest = refl

serve_text : (serve : Bool) → (if not serve then [] else 32 ∷ codes "serve") ≡ (if serve then codes " serve" else [])
serve_text true = refl
serve_text false = refl

end_of : (e : Option ℕ) → flat_map word (end_words e) ≡ end_text e
end_of None = refl
end_of (Some n) = append-nil (codes " end=" ++ decimal n)

regroup : (p a f s e : List ℕ) → p ++ (a ++ (f ++ (s ++ e))) ≡ p ++ a ++ f ++ s ++ e
regroup p a f s e = simp append_assoc

pub shape_text_words : (s : Shape) → shape_text s ≡ flat_map word (shape_words s)
shape_text_words s =
    let piece = option_text (codes "piece") 65536 s.piece in
    let again = option_text (codes "again") 0 s.again in
    let fail = option_text (codes "fail") 0 s.fail in
    let serve = if s.serve then codes " serve" else [] in
    sym (option_words (s.piece == 65536) (codes "piece=" ++ decimal s.piece) (from_again s)
    ∙ ap (λ t. piece ++ t) (option_words (s.again == 0) (codes "again=" ++ decimal s.again) (from_fail s)
    ∙ ap (λ t. again ++ t) (option_words (s.fail == 0) (codes "fail=" ++ decimal s.fail) (from_serve s)
    ∙ ap (λ t. fail ++ t) (option_words (not s.serve) (codes "serve") (end_words s.end)
    ∙ ap (λ t. t ++ flat_map word (end_words s.end)) (serve_text s.serve) ∙ ap (λ t. serve ++ t) (end_of s.end))))
    ∙ regroup piece again fail serve (end_text s.end))

pub shape_words_are : (s : Shape) → IsShape s → list_all is_word (shape_words s) ≡ true
shape_words_are s h =
    shape_words_pass is_word s
    (λ e. word_parts (decimal s.piece) (number_option_word 65536 1 65536 s.piece (omega arith) h.piece_in e))
    (λ e. word_parts (decimal s.again) (number_option_word 0 2 65536 s.again (omega arith) h.again_in e))
    (λ e. word_parts (decimal s.fail) (number_option_word 0 1 65536 s.fail (omega arith) h.fail_in e))
    refl (λ n e. last s.end n h.end_in e)
  where
    last : (e : Option ℕ) (n : ℕ) → IfSome e (IsWithin 0 65536) → e ≡ Some n → is_word (codes "end=" ++ decimal n) ≡ true
    last None n h e = absurd (none_some e)
      where
        none_some : None ≡ Some n → ⊥
        none_some d = cc
    last (Some m) n h e =
        let same : m ≡ n = cc in
        let top = h.to in
        word_parts (decimal n) (decimal_word n (omega arith))
