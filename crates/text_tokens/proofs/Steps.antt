-- How pieces and tokens are made of what functions told.
use Rattle.std.proofs.lemmas.Grind.{common_steps}
use Rattle.std.proofs.Common.{◌≡◌, ℕ, zero, suc, ◌≤◌, ◌+◌, ◌-◌, ◌*◌, ◌<◌, ◌||◌, Bool, List, [], ◌∷◌, ◌++◌, length, get_or, take, drop, true, false, refl, sym, ap, ◌∙◌, subst, add-one, drop-cons, arith, nat_le, encode_utf8}
use Rattle.std.proofs.lemmas.Bool.{false≢true}
use Rattle.std.specs.Prelude.{Option, Some, None, MatchOption, IfSome}
use Rattle.text_tokens.specs.Lines as lines
use Rattle.text_tokens.specs.Lines.{begins_byte, begins_line_end, begins_pair, is_wide_space, is_separator, is_space, is_line_end, Line, text_ends, line_ends, line_goes, Comment, comment_ends, comment_goes, Blank, space, no_break_space, wide_space, line_end, separator, line_comment, comment, Between, more, Blanks, Ahead}
use Rattle.text_tokens.specs.Tokens.{Word, word, word_goes_on, Number, number, number_goes_on, decimal, all_digits, has_no_zero_before, Sign, sign, sign_goes_on}
use Rattle.text_tokens.specs.Texts as texts
use Rattle.text_tokens.specs.Texts.{is_hex, hex, Hexes, one_hex, Braces, braces, LineBreak, Unit, four, braced, is_scalar, is_high, is_low, joined, Escape, is_single, escaped_byte, begins_digit, single, zero_byte, two_hex, unit, pair, Piece, plain, escape, line_return, line_return_feed, is_template, is_plain, Pieces, ended, piece, ends, Quoted, quoted, is_quote, TemplateText}
use Rattle.text_tokens.specs.Ends.{Ends, semicolon, by_brace, by_end, by_line, goes_on}

pub where_some : {A : Type 0} (N : Type 0) (P : A → Type 0) (r : Option A) → MatchOption r N P → IfSome r P
where_some N P (Some x) h = h
where_some N P None h = tt

pub where_both : {A : Type 0} (P Q : A → Type 0) (r : Option A) → ((x : A) → P x → Q x) → IfSome r P → IfSome r Q
where_both P Q (Some x) f h = f x h
where_both P Q None f h = tt

-- the rest of a line, and of a comment

nothing_left : (s : List ℕ) (i : ℕ) → length s ≤ i → drop i s ≡ []
nothing_left [] zero h = refl
nothing_left [] (suc i) h = refl
nothing_left (x ∷ s) zero h = absurd (omega arith)
nothing_left (x ∷ s) (suc i) h = nothing_left s i (omega arith)

whole : (ys : List ℕ) (n : ℕ) → n ≡ length ys → take n ys ≡ ys
whole ys n is = grind (arith, common_steps, is)

-- what is left from a place on
pub rest_whole : (s : List ℕ) (i : ℕ) → take (length s - i) (drop i s) ≡ drop i s
rest_whole s zero = whole s (length s - 0) (omega arith)
rest_whole [] (suc i) = whole [] (0 - suc i) (omega arith)
rest_whole (x ∷ s) (suc i) = let same : length s - i ≡ length (x ∷ s) - suc i = omega arith in subst (λ n. take n (drop i s) ≡ drop i s) same (rest_whole s i)

pub line_stop : (s : List ℕ) (i : ℕ) → begins_line_end (take (length s - i) (drop i s)) ≡ true → Line (drop i s) (take (length s - i) (drop i s))
line_stop s i h = subst (λ x. Line x (take (length s - i) (drop i s))) (rest_whole s i) (line_ends h)

pub line_more : (s : List ℕ) (i : ℕ) (e : List ℕ) → i < length s → begins_line_end (take (length s - i) (drop i s)) ≡ false → Line (drop (i + 1) s) e → Line (drop i s) e
line_more s i e within n h =
    let d = drop-cons s i 0 within in let g : Line (drop (suc i) s) e = rw add-one at h in
    subst (λ x. Line x e) (sym d) (line_goes (get_or s i 0) (subst (λ x. begins_line_end x ≡ false) (rest_whole s i ∙ d) n) g)

pub line_last : (s : List ℕ) (i j : ℕ) → length s ≤ i → length s ≤ j → Line (drop i s) (take (length s - j) (drop j s))
line_last s i j h k = subst (λ x. Line x (take (length s - j) (drop j s))) (sym (nothing_left s i h)) (subst (λ x. Line [] x) (sym (rest_whole s j ∙ nothing_left s j k)) text_ends)

comment_more : (s : List ℕ) (i : ℕ) (l : Bool) (e : List ℕ) → i < length s → begins_pair 42 47 (drop i s) ≡ false → Comment l (drop (i + 1) s) e → Comment (begins_line_end (drop i s) || l) (drop i s) e
comment_more s i l e within n h =
    let d = drop-cons s i 0 within in let g : Comment l (drop (suc i) s) e = rw add-one at h in
    subst (λ x. Comment (begins_line_end x || l) x e) (sym d) (comment_goes (get_or s i 0) (subst (λ x. begins_pair 42 47 x ≡ false) d n) g)

or_again : (a b c : Bool) → ((a || b) || c) ≡ (a || (b || c))
or_again true b c = refl
or_again false b c = refl

pub comment_next : (s : List ℕ) (i : ℕ) (l k j m : Bool) (e : List ℕ) → i < length s → begins_pair 42 47 (take (length s - i) (drop i s)) ≡ false → k ≡ begins_line_end (take (length s - i) (drop i s)) → j ≡ (l || k) → ((n : Bool) (f : List ℕ) → Comment n (drop i s) f → Comment (l || n) s f) → Comment m (drop (i + 1) s) e → Comment (j || m) s e
comment_next s i l k j m e within free is made before h =
    let same : k ≡ begins_line_end (drop i s) = is ∙ ap begins_line_end (rest_whole s i) in
    subst (λ x. Comment (x || m) s e) (sym (made ∙ ap (λ y. l || y) same))
    (subst (λ x. Comment x s e) (sym (or_again l (begins_line_end (drop i s)) m)) (before (begins_line_end (drop i s) || m) e (comment_more s i m e within (subst (λ x. begins_pair 42 47 x ≡ false) (rest_whole s i) free) h)))

or_false : (l : Bool) → (l || false) ≡ l
or_false true = refl
or_false false = refl

pub comment_stop : (s : List ℕ) (i : ℕ) (l m : Bool) (e : List ℕ) → m ≡ l → ((n : Bool) (f : List ℕ) → Comment n (drop i s) f → Comment (l || n) s f) → Comment false (take (length s - i) (drop i s)) e → Comment m s e
comment_stop s i l m e is before h = subst (λ x. Comment x s e) (or_false l ∙ sym is) (before false e (subst (λ x. Comment false x e) (rest_whole s i) h))

pub comment_end_at : (b c e : List ℕ) → b ≡ 42 ∷ c → c ≡ 47 ∷ e → Comment false b e
comment_end_at b c e p q = subst (λ x. Comment false x e) (sym (p ∙ ap (λ x. 42 ∷ x) q)) comment_ends

-- pieces

pub no_break_at : (b c e : List ℕ) → b ≡ 194 ∷ c → c ≡ 160 ∷ e → Blank false b e
no_break_at b c e p q = subst (λ x. Blank false x e) (sym (p ∙ ap (λ x. 194 ∷ x) q)) no_break_space

three : (a b c : ℕ) (t p q e : List ℕ) → t ≡ a ∷ p → p ≡ b ∷ q → q ≡ c ∷ e → (a ∷ b ∷ c ∷ e) ≡ t
three a b c t p q e h i j = sym (h ∙ ap (λ x. a ∷ x) (i ∙ ap (λ x. b ∷ x) j))

pub wide_at : (a b c : ℕ) (t p q e : List ℕ) → t ≡ a ∷ p → p ≡ b ∷ q → q ≡ c ∷ e → is_wide_space a b c ≡ true → Blank false t e
wide_at a b c t p q e h i j k = subst (λ x. Blank false x e) (three a b c t p q e h i j) (wide_space a b c k)

pub separator_at : (a b c : ℕ) (t p q e : List ℕ) → t ≡ a ∷ p → p ≡ b ∷ q → q ≡ c ∷ e → is_separator a b c ≡ true → Blank true t e
separator_at a b c t p q e h i j k = subst (λ x. Blank true x e) (three a b c t p q e h i j) (separator a b c k)

pub break_at : (a b c : ℕ) (t p q e : List ℕ) → t ≡ a ∷ p → p ≡ b ∷ q → q ≡ c ∷ e → is_separator a b c ≡ true → LineBreak t e
break_at a b c t p q e h i j k = subst (λ x. LineBreak x e) (three a b c t p q e h i j) (texts.separator a b c k)

pub line_comment_at : (b c e : List ℕ) → b ≡ 47 ∷ c → Line c e → Blank false (47 ∷ b) e
line_comment_at b c e p h = subst (λ x. Blank false (47 ∷ x) e) (sym p) (line_comment h)

pub comment_at : (l : Bool) (b c e : List ℕ) → b ≡ 42 ∷ c → Comment l c e → Blank l (47 ∷ b) e
comment_at l b c e p h = subst (λ x. Blank l (47 ∷ x) e) (sym p) (comment h)

pub space_at : (c : ℕ) (t e : List ℕ) → t ≡ c ∷ e → is_space c ≡ true → Blank false t e
space_at c t e p h = subst (λ x. Blank false x e) (sym p) (space c h)

pub line_end_at : (c : ℕ) (t e : List ℕ) → t ≡ c ∷ e → is_line_end c ≡ true → Blank true t e
line_end_at c t e p h = subst (λ x. Blank true x e) (sym p) (line_end c h)

pub between_more : (l m j : Bool) (b c e : List ℕ) → j ≡ (l || m) → Between l b c → Blank m c e → Between j b e
between_more l m j b c e p h i = subst (λ x. Between x b e) (sym p) (more h i)

-- tokens

pub word_at : (w b m e : List ℕ) → Blanks b m → m ≡ w ++ e → word_goes_on e ≡ false → Word w b e
word_at w b m e p q r = word (subst (Blanks b) q p) r

pub sign_at : (s b m e : List ℕ) → Blanks b m → m ≡ s ++ e → sign_goes_on s e ≡ false → Sign s b e
sign_at s b m e p q r = sign (subst (Blanks b) q p) r

pub number_at : (n f : ℕ) (ds b m e : List ℕ) → Blanks b m → m ≡ ds ++ e → all_digits ds ≡ true → has_no_zero_before ds ≡ true → number_goes_on e ≡ false → f ≡ decimal 0 ds → nat_le f 9007199254740991 ≡ true → f ≡ n → Number n b e
number_at n f ds b m e p q r s t u x y = subst (λ k. Number k b e) (sym u ∙ y) (number ds (subst (Blanks b) q p) r s (subst (λ k. nat_le k 9007199254740991 ≡ true) u x) t)

-- escapes

pub hexes_at : (k m n h c : ℕ) (b r e : List ℕ) → 0 < k → b ≡ c ∷ r → is_hex c ≡ true → h ≡ hex c → Hexes (k - 1) (m * 16 + h) n r e → Hexes k m n b e
hexes_at zero m n h c b r e some p q s i = absurd (omega arith)
hexes_at (suc k) m n h c b r e some p q s i =
    let less : suc k - 1 ≡ k = omega arith in
    subst (λ x. Hexes (suc k) m n x e) (sym p) (one_hex c q (subst (λ x. Hexes k (m * 16 + x) n r e) s (subst (λ x. Hexes x (m * 16 + h) n r e) less i)))

pub braces_at : (k n : ℕ) (b d e : List ℕ) → 0 < k → d ≡ 125 ∷ e → Hexes k 0 n b d → Braces n b e
braces_at zero n b d e some p h = absurd (omega arith)
braces_at (suc k) n b d e some p h = braces (subst (Hexes (suc k) 0 n b) p h)

pub unit_at : (n : ℕ) (t e v u : List ℕ) → Unit n t e → is_scalar n ≡ true → v ≡ encode_utf8 n ++ u → Escape v t u e
unit_at n t e v u h s p = subst (λ x. Escape x t u e) (sym p) (unit h s)

pub pair_at : (h l n : ℕ) (t r s e v u : List ℕ) → Unit h t r → r ≡ 92 ∷ s → Unit l s e → is_high h ≡ true → is_low l ≡ true → n ≡ joined h l → v ≡ encode_utf8 n ++ u → Escape v t u e
pair_at h l n t r s e v u first p second i j made q = subst (λ x. Escape x t u e) (sym (q ∙ ap (λ x. encode_utf8 x ++ u) made)) (pair (subst (Unit h t) p first) i second j)

pub four_at : (n : ℕ) (t d e : List ℕ) → t ≡ 117 ∷ d → Hexes 4 0 n d e → Unit n t e
four_at n t d e p h = subst (λ x. Unit n x e) (sym p) (four h)

pub braced_at : (n : ℕ) (t r d e : List ℕ) → t ≡ 117 ∷ r → r ≡ 123 ∷ d → Braces n d e → Unit n t e
braced_at n t r d e p q h = subst (λ x. Unit n x e) (sym (p ∙ ap (λ x. 117 ∷ x) q)) (braced h)

pub two_hex_at : (n : ℕ) (t d e v u : List ℕ) → t ≡ 120 ∷ d → Hexes 2 0 n d e → v ≡ encode_utf8 n ++ u → Escape v t u e
two_hex_at n t d e v u p h q = subst (λ x. Escape x t u e) (sym q) (subst (λ x. Escape (encode_utf8 n ++ u) x u e) (sym p) (two_hex h))

pub single_at : (c d : ℕ) (t e v u : List ℕ) → t ≡ c ∷ e → is_single t ≡ true → v ≡ d ∷ u → d ≡ escaped_byte c → Escape v t u e
single_at c d t e v u p s q r = subst (λ x. Escape x t u e) (sym (q ∙ ap (λ x. x ∷ u) r)) (subst (λ x. Escape (escaped_byte c ∷ u) x u e) (sym p) (single c (subst (λ x. is_single x ≡ true) p s)))

pub zero_at : (t e v u : List ℕ) → t ≡ 48 ∷ e → v ≡ 0 ∷ u → begins_digit e ≡ false → Escape v t u e
zero_at t e v u p q n = subst (λ x. Escape x t u e) (sym q) (subst (λ x. Escape (0 ∷ u) x u e) (sym p) (zero_byte n))

-- pieces of texts

pub plain_at : (q c : ℕ) (t e v u : List ℕ) → t ≡ c ∷ e → v ≡ c ∷ u → is_plain q c ≡ true → Piece q v t u e
plain_at q c t e v u p r s = subst (λ x. Piece q x t u e) (sym r) (subst (λ x. Piece q (c ∷ u) x u e) (sym p) (plain c s))

pub escape_at : (q : ℕ) (t m e v u : List ℕ) → t ≡ 92 ∷ m → Escape v m u e → Piece q v t u e
escape_at q t m e v u p h = subst (λ x. Piece q v x u e) (sym p) (escape h)

pub return_at : (q : ℕ) (t v u : List ℕ) → is_template q ≡ true → begins_byte 10 t ≡ false → v ≡ 10 ∷ u → Piece q v (13 ∷ t) u t
return_at q t v u i n r = subst (λ x. Piece q x (13 ∷ t) u t) (sym r) (line_return i n)

pub return_feed_at : (q : ℕ) (t e v u : List ℕ) → is_template q ≡ true → t ≡ 10 ∷ e → v ≡ 10 ∷ u → Piece q v (13 ∷ t) u e
return_feed_at q t e v u i p r = subst (λ x. Piece q x (13 ∷ t) u e) (sym r) (subst (λ x. Piece q (10 ∷ u) (13 ∷ x) u e) (sym p) (line_return_feed i))

no_bytes : (b : List ℕ) → length b ≡ 0 → b ≡ []
no_bytes [] h = refl
no_bytes (c ∷ cs) h = absurd (omega arith)

pub ended_at : (q : ℕ) (v t : List ℕ) → length v ≡ 0 → ends q t ≡ true → Pieces q v t t
ended_at q v t h e = subst (λ x. Pieces q x t t) (sym (no_bytes v h)) (ended e)

pub quoted_at : (q : ℕ) (v t p i e r : List ℕ) → Blanks t p → p ≡ q ∷ i → is_quote q ≡ true → Pieces q v i e → e ≡ q ∷ r → Quoted v t r
quoted_at q v t p i e r b is k h l = quoted q k (subst (Blanks t) is b) (subst (Pieces q v i) l h)

pub last_text_at : (l : Bool) (v b e r : List ℕ) → l ≡ true → Pieces 96 v b e → e ≡ 96 ∷ r → TemplateText l v b r
last_text_at true v b e r is h p = subst (Pieces 96 v b) p h
last_text_at false v b e r is h p = absurd (false≢true is)

pub middle_text_at : (l : Bool) (v b e m r : List ℕ) → l ≡ false → Pieces 96 v b e → e ≡ 36 ∷ m → m ≡ 123 ∷ r → TemplateText l v b r
middle_text_at false v b e m r is h p q = subst (Pieces 96 v b) (p ∙ ap (λ x. 36 ∷ x) q) h
middle_text_at true v b e m r is h p q = absurd (false≢true (sym is))

-- ends

pub semicolon_at : (closed l : Bool) (b e f : List ℕ) → Ahead l b e → e ≡ 59 ∷ f → Ends (goes_on closed) b f
semicolon_at closed l b e f h is = semicolon (subst (Ahead l b) is h)

pub brace_at : (closed l : Bool) (b e f : List ℕ) → Ahead l b e → e ≡ 125 ∷ f → Ends (goes_on closed) b b
brace_at closed l b e f h is = by_brace (subst (Ahead l b) is h)

pub end_at : (closed l : Bool) (b e : List ℕ) → Ahead l b e → length e ≡ 0 → Ends (goes_on closed) b b
end_at closed l b e h is = by_end (subst (Ahead l b) (no_bytes e is) h)

pub line_at : (closed l : Bool) (b e : List ℕ) → Ahead l b e → l ≡ true → goes_on closed e ≡ false → Ends (goes_on closed) b b
line_at closed l b e h is g = by_line (subst (λ m. Ahead m b e) is h) g
