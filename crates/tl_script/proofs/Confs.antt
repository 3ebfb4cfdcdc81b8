-- The pairs of a configuration, as they are read.
use Rattle.std.proofs.Common.{◌≡◌, ℕ, suc, ◌<◌, ◌≤◌, Bool, true, false, not, ◌&&◌, ◌||◌, nat_le, List, [], ◌∷◌, ◌++◌, length, bytes_eq, refl, sym, ◌∙◌, ap, subst, arith}
use Rattle.std.specs.List.{list_any, list_all, AllByRecursion}
use Rattle.std.specs.Global.{Vec}
use Rattle.std.proofs.lemmas.Bool.{and_parts, and_from, le-leb, lt-ltb, not-true, not_from_false}
use Rattle.std.proofs.lemmas.Slice.Eq.{bytes_eq-Decides}
use Rattle.tl_types.specs.Path.{IsPath}
use Rattle.tl_lang.specs.Conf.{Pair, pair_of, pairs_of, is_short, keys_differ, is_conf}
use Rattle.tl_model.specs.declared.header.Version.{Version}
use Rattle.tl_script.specs.declared.word.Mark.{Mark}
use Rattle.tl_script.specs.declared.word.Mark.TheVariants as mark_is
use Rattle.tl_script.specs.Words.{mark_text}
use Rattle.tl_script.specs.Tokens.{Token, a_mark, a_path, a_text, spaced}
use Rattle.tl_script.specs.Places.{Place, settings, key, text_then, paths_then, has_key, when, next, Follows, conf_limit, text_limit}
use Rattle.tl_script.specs.Commands.{with_conf, with_paths, AreBytes}
use Rattle.tl_script.specs.Reading.{keys_of, HaveBytes, AreConf, IsPair, Precede, RefusedToo}
use Rattle.tl_script.proofs.Sayings.{or_false, or_from, bytes_differ}
use Rattle.tl_script.proofs.Steps.{too_from, too_on, follows_spaced}

pub keys_test : (pairs : List (Vec ℕ × Vec ℕ)) (s : List ℕ) → list_any (λ p. bytes_eq p.0 s) (pairs_of pairs) ≡ has_key (keys_of pairs) s
keys_test [] s = refl
keys_test (p ∷ ps) s = ap (λ (b : Bool). bytes_eq p.0.items s || b) (keys_test ps s)

pub keys_length : (pairs : List (Vec ℕ × Vec ℕ)) → length (keys_of pairs) ≡ length pairs
keys_length [] = refl
keys_length (p ∷ ps) = ap suc (keys_length ps)

pairs_length : (pairs : List (Vec ℕ × Vec ℕ)) → length (pairs_of pairs) ≡ length pairs
pairs_length [] = refl
pairs_length (p ∷ ps) = ap suc (pairs_length ps)

pub keys_behind : (pairs : List (Vec ℕ × Vec ℕ)) (p : Vec ℕ × Vec ℕ) → keys_of (pairs ++ p ∷ []) ≡ keys_of pairs ++ p.0.items ∷ []
keys_behind [] p = refl
keys_behind (q ∷ qs) p = ap (λ (ks : List (List ℕ)). q.0.items ∷ ks) (keys_behind qs p)

pairs_behind : (pairs : List (Vec ℕ × Vec ℕ)) (p : Vec ℕ × Vec ℕ) → pairs_of (pairs ++ p ∷ []) ≡ pairs_of pairs ++ pair_of p ∷ []
pairs_behind [] p = refl
pairs_behind (q ∷ qs) p = ap (λ (ps : List Pair). pair_of q ∷ ps) (pairs_behind qs p)

conf_behind : (pairs : List Pair) (p : Pair) (more : List Token) → with_conf (pairs ++ p ∷ []) more ≡ with_conf pairs (a_mark mark_is.Conf ∷ a_text p.0 ∷ a_text p.1 ∷ more)
conf_behind [] p more = refl
conf_behind (q ∷ qs) p more = ap (λ (ts : List Token). a_mark mark_is.Conf ∷ a_text q.0 ∷ a_text q.1 ∷ ts) (conf_behind qs p more)

-- ---- the pairs make a configuration

bytes_behind : (pairs : List Pair) (p : Pair) → HaveBytes pairs → AreBytes p.0 × AreBytes p.1 → HaveBytes (pairs ++ p ∷ [])
bytes_behind [] p h b = (b, tt)
bytes_behind (q ∷ qs) p h b = (h.0, bytes_behind qs p h.1 b)

short_behind : (pairs : List Pair) (p : Pair) → list_all is_short pairs ≡ true → is_short p ≡ true → list_all is_short (pairs ++ p ∷ []) ≡ true
short_behind [] p h s = and_from (is_short p) true s refl
short_behind (q ∷ qs) p h s = let both = and_parts (is_short q) (list_all is_short qs) h in and_from (is_short q) (list_all is_short (qs ++ p ∷ [])) both.0 (short_behind qs p both.1 s)

other_key : (pairs : List Pair) (k : List ℕ) (p : Pair) → list_any (λ q. bytes_eq q.0 k) pairs ≡ false → bytes_eq p.0 k ≡ false → list_any (λ q. bytes_eq q.0 k) (pairs ++ p ∷ []) ≡ false
other_key [] k p h e = or_from (bytes_eq p.0 k) false e refl
other_key (q ∷ qs) k p h e = let both = or_false (bytes_eq q.0 k) (list_any (λ q. bytes_eq q.0 k) qs) h in or_from (bytes_eq q.0 k) (list_any (λ q. bytes_eq q.0 k) (qs ++ p ∷ [])) both.0 (other_key qs k p both.1 e)

differ_behind : (pairs : List Pair) (p : Pair) → keys_differ pairs ≡ true → list_any (λ q. bytes_eq q.0 p.0) pairs ≡ false → keys_differ (pairs ++ p ∷ []) ≡ true
differ_behind [] p h f = refl
differ_behind (q ∷ qs) p h f =
    let both = and_parts (not (list_any (λ r. bytes_eq r.0 q.0) qs)) (keys_differ qs) h in
    let parts = or_false (bytes_eq q.0 p.0) (list_any (λ r. bytes_eq r.0 p.0) qs) f in
    and_from (not (list_any (λ r. bytes_eq r.0 q.0) (qs ++ p ∷ []))) (keys_differ (qs ++ p ∷ []))
    (not_from_false (list_any (λ r. bytes_eq r.0 q.0) (qs ++ p ∷ [])) (other_key qs q.0 p (not-true (list_any (λ r. bytes_eq r.0 q.0) qs) both.0) (bytes_differ q.0 p.0 parts.0)))
    (differ_behind qs p both.1 parts.1)

length_more : (pairs : List Pair) (p : Pair) → length (pairs ++ p ∷ []) ≡ suc (length pairs)
length_more [] p = refl
length_more (q ∷ qs) p = ap suc (length_more qs p)

conf_more : (pairs : List Pair) (p : Pair) → is_conf pairs ≡ true → length pairs < conf_limit → is_short p ≡ true → list_any (λ q. bytes_eq q.0 p.0) pairs ≡ false → is_conf (pairs ++ p ∷ []) ≡ true
conf_more pairs p h few short fresh =
    let outer = and_parts (nat_le (length pairs) 16 && list_all is_short pairs) (keys_differ pairs) h in
    let inner = and_parts (nat_le (length pairs) 16) (list_all is_short pairs) outer.0 in
    let one_more = length_more pairs p in
    and_from (nat_le (length (pairs ++ p ∷ [])) 16 && list_all is_short (pairs ++ p ∷ [])) (keys_differ (pairs ++ p ∷ []))
    (and_from (nat_le (length (pairs ++ p ∷ [])) 16) (list_all is_short (pairs ++ p ∷ [])) (le-leb (length (pairs ++ p ∷ [])) 16 (omega (arith, one_more))) (short_behind pairs p inner.1 short))
    (differ_behind pairs p outer.1 fresh)

pub are_conf_more : (pairs : List (Vec ℕ × Vec ℕ)) (p : Vec ℕ × Vec ℕ) (bytes rest : List ℕ) → AreConf (pairs_of pairs) → length pairs < conf_limit → (length p.0.items ≤ text_limit) × (length p.1.items ≤ text_limit)
    → has_key (keys_of pairs) p.0.items ≡ false → IsPair bytes p.0.items p.1.items rest → AreConf (pairs_of (pairs ++ p ∷ []))
are_conf_more pairs p bytes rest h few short fresh stands =
    let same_length = pairs_length pairs in
    subst AreConf (sym (pairs_behind pairs p))
    (record {
      conf =
          conf_more (pairs_of pairs) (pair_of p) h.conf (omega (arith, same_length)) (and_from (nat_le (length p.0.items) 1048576) (nat_le (length p.1.items) 1048576) (le-leb (length p.0.items) 1048576 short.0) (le-leb (length p.1.items) 1048576 short.1))
          (keys_test pairs p.0.items ∙ fresh);
      bytes = bytes_behind (pairs_of pairs) (pair_of p) h.bytes (stands.3.2.0.small, stands.4.2.0.small);
    })

-- ---- what precedes

pub conf_precedes : (text mid rest : List ℕ) (pairs : List (Vec ℕ × Vec ℕ)) (p : Vec ℕ × Vec ℕ) → Precede text (with_conf (pairs_of pairs)) mid → IsPair mid p.0.items p.1.items rest → Precede text (with_conf (pairs_of (pairs ++ p ∷ []))) rest
conf_precedes text mid rest pairs p before stands = λ more e.
    before (a_mark mark_is.Conf ∷ a_text p.0.items ∷ a_text p.1.items ∷ more)
    (follows_spaced mid (a_mark mark_is.Conf) stands.0 (a_text p.0.items ∷ a_text p.1.items ∷ more) stands.2
    (follows_spaced stands.0 (a_text p.0.items) stands.1 (a_text p.1.items ∷ more) stands.3 (follows_spaced stands.1 (a_text p.1.items) rest more stands.4 e)))
    ∙ ap spaced (sym (conf_behind (pairs_of pairs) (pair_of p) more) ∙ ap (λ (ps : List Pair). with_conf ps more) (sym (pairs_behind pairs p)))

pub may_conf : (version : Version) (keys : List (List ℕ)) → length keys < conf_limit → next (settings version keys) (a_mark mark_is.Conf) ≡ when true (key version keys)
may_conf version keys few = ap (λ (b : Bool). when b (key version keys)) (lt-ltb (length keys) conf_limit few)

pub may_key : (version : Version) (keys : List (List ℕ)) (k : List ℕ) → length k ≤ text_limit → has_key keys k ≡ false → next (key version keys) (a_text k) ≡ when true (text_then (settings version (keys ++ k ∷ [])))
may_key version keys k short fresh =
    ap (λ (b : Bool). when b (text_then (settings version (keys ++ k ∷ [])))) (and_from (nat_le (length k) text_limit) (not (has_key keys k)) (le-leb (length k) text_limit short) (not_from_false (has_key keys k) fresh))

pub may_value : (after : Place) (v : List ℕ) → length v ≤ text_limit → next (text_then after) (a_text v) ≡ when true after
may_value after v short = ap (λ (b : Bool). when b after) (le-leb (length v) text_limit short)

-- what is refused behind a pair is refused before it
pub pair_too : (version : Version) (pairs : List (Vec ℕ × Vec ℕ)) (p : Vec ℕ × Vec ℕ) (bytes rest : List ℕ) → length pairs < conf_limit → (length p.0.items ≤ text_limit) × (length p.1.items ≤ text_limit) → has_key (keys_of pairs) p.0.items ≡ false
    → IsPair bytes p.0.items p.1.items rest → RefusedToo (settings version (keys_of pairs)) bytes (settings version (keys_of (pairs ++ p ∷ []))) rest
pair_too version pairs p bytes rest few short fresh stands =
    let keys = keys_of pairs in
    let same_length = keys_length pairs in
    subst (λ (ks : List (List ℕ)). RefusedToo (settings version (keys_of pairs)) bytes (settings version ks) rest) (sym (keys_behind pairs p))
    (too_on (settings version (keys_of pairs)) (key version (keys_of pairs)) (settings version (keys_of pairs ++ p.0.items ∷ [])) bytes stands.0 rest
    (too_from (settings version (keys_of pairs)) (key version (keys_of pairs)) bytes (a_mark mark_is.Conf) stands.0 stands.2 (may_conf version (keys_of pairs) (omega (arith, same_length))))
    (too_on (key version (keys_of pairs)) (text_then (settings version (keys_of pairs ++ p.0.items ∷ []))) (settings version (keys_of pairs ++ p.0.items ∷ [])) stands.0 stands.1 rest
    (too_from (key version (keys_of pairs)) (text_then (settings version (keys_of pairs ++ p.0.items ∷ []))) stands.0 (a_text p.0.items) stands.1 stands.3 (may_key version (keys_of pairs) p.0.items short.0 fresh))
    (too_from (text_then (settings version (keys_of pairs ++ p.0.items ∷ []))) (settings version (keys_of pairs ++ p.0.items ∷ [])) stands.1 (a_text p.1.items) rest stands.4 (may_value (settings version (keys_of pairs ++ p.0.items ∷ [])) p.1.items short.1))))

-- ---- lists of paths

paths_behind : (paths : List (List (List ℕ))) (p : List (List ℕ)) (more : List Token) → with_paths (paths ++ p ∷ []) more ≡ with_paths paths (a_path p ∷ more)
paths_behind [] p more = refl
paths_behind (q ∷ qs) p more = ap (λ (ts : List Token). a_path q ∷ ts) (paths_behind qs p more)

pub paths_precede : (text mid rest : List ℕ) (paths : List (List (List ℕ))) (p : List (List ℕ)) → Precede text (with_paths paths) mid → Follows mid (a_path p) rest → Precede text (with_paths (paths ++ p ∷ [])) rest
paths_precede text mid rest paths p before stands = λ more e.
    before (a_path p ∷ more) (follows_spaced mid (a_path p) rest more stands e) ∙ ap spaced (sym (paths_behind paths p more))

pub all_behind : (paths : List (List (List ℕ))) (p : List (List ℕ)) → AllByRecursion IsPath paths → IsPath p → AllByRecursion IsPath (paths ++ p ∷ [])
all_behind [] p h k = (k, tt)
all_behind (q ∷ qs) p h k = (h.0, all_behind qs p h.1 k)

pub count_behind : (paths : List (List (List ℕ))) (p : List (List ℕ)) → length (paths ++ p ∷ []) ≡ suc (length paths)
count_behind [] p = refl
count_behind (q ∷ qs) p = ap suc (count_behind qs p)

pub path_too : (limit least : ℕ) (word : Mark) (after : ℕ → Place) (text mid rest : List ℕ) (paths : List (List (List ℕ))) (p : List (List ℕ)) → RefusedToo (paths_then limit least 0 word after) text (paths_then limit least (length paths) word after) mid
    → length paths < limit → Follows mid (a_path p) rest → RefusedToo (paths_then limit least 0 word after) text (paths_then limit least (length (paths ++ p ∷ [])) word after) rest
path_too limit least word after text mid rest paths p before few stands =
    subst (λ (n : ℕ). RefusedToo (paths_then limit least 0 word after) text (paths_then limit least n word after) rest) (sym (count_behind paths p))
    (too_on (paths_then limit least 0 word after) (paths_then limit least (length paths) word after) (paths_then limit least (suc (length paths)) word after) text mid rest before
    (too_from (paths_then limit least (length paths) word after) (paths_then limit least (suc (length paths)) word after) mid (a_path p) rest stands
    (ap (λ (b : Bool). when b (paths_then limit least (suc (length paths)) word after)) (lt-ltb (length paths) limit few))))

pub mark_too : (limit least : ℕ) (word : Mark) (after : ℕ → Place) (text mid rest : List ℕ) (count : ℕ) → RefusedToo (paths_then limit least 0 word after) text (paths_then limit least count word after) mid
    → least ≤ count → Follows mid (a_mark word) rest → RefusedToo (paths_then limit least 0 word after) text (after count) rest
mark_too limit least word after text mid rest count before enough stands =
    too_on (paths_then limit least 0 word after) (paths_then limit least count word after) (after count) text mid rest before
    (too_from (paths_then limit least count word after) (after count) mid (a_mark word) rest stands
    (ap (λ (b : Bool). when b (after count)) (and_from (bytes_eq (mark_text word) (mark_text word)) (nat_le least count) ((bytes_eq-Decides (mark_text word) (mark_text word)).1 refl) (le-leb least count enough))))
