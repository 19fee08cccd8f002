-- The lettered pictures A to J (document 01) in mode 0: one table of what is said of each, and the theorem that the definitions say
-- the same (`table-right`); another of groups that have emptied (document 02, P6; `groups-right`). The pictures stand in `meaning`
-- specs/Cases. Assumes nothing.
use Rattle.std.specs.Prelude.{◌≡◌, refl, Bool, true, false, List, [], ◌∷◌, map, ℕ, ◌*◌, length, replicate}
use Rattle.std.specs.Prelude.{Option, None as none, Some as some, Result, Ok, Err}
use Rattle.base.specs.Search.{or_else, given, first, lowest, every, select}
use Rattle.base.specs.Buffers.{build, written}
use Rattle.tables.specs.Rows.{Picture, side_of, is_group, on_side}
use Rattle.tables.specs.Atoms.{outer, atom, atoms, pair_count}
use Rattle.tables.specs.declared.Refusal.TheVariants.{InItself, NotAtomic, UnclearPair, NoOrder}
use Rattle.tables.specs.Faults.{ragged_fault, count_fault, byte_fault, names_no_box, across_sides, wrong_ends, wrong_mode}
use Rattle.tables.specs.Faults.{row_fault, table_fault, mode_fault, room_fault}
use Rattle.tables.specs.declared.Refusal.{Refusal}
use Rattle.containment.specs.Contains.{contains, around, loop_fault}
use Rattle.scratch.specs.Scratch.{scratch_fault, early_fault, mode_early, picture_fault}
use Rattle.meaning.specs.Meaning.{has_mode, mode_arrows, reaches, nests, level, overrides, settle, hits, certifies, answer}
use Rattle.meaning.specs.Meaning.{byte_of, number_of, is_granted, is_unclear}
use Rattle.meaning.specs.Pairs.{user_at, file_at, answer_at, matrix_bytes, matrix_numbers, unclear_fault, any_unclear}
use Rattle.answers.specs.Calls.{asked_fault, entry_fault, judge_fault, reply_of}
use Rattle.meaning.specs.Cases.{picture-A, picture-B, picture-C, picture-D, picture-E, picture-F}
use Rattle.meaning.specs.Cases.{picture-G, picture-H, picture-I, picture-J}
use Rattle.meaning.specs.Cases.{emptied-group, around-emptied, emptied-both, groups-left}
use Rattle.meaning.specs.declared.Entry.{Entry}
use Rattle.meaning.specs.declared.Entry.TheVariants.{Granted, Denied, Default, Unclear}
use Rattle.list_meaning.specs.Order.{passes, any_of, all_of, first_of, distinct}
use Rattle.list_meaning.specs.Lists.{gives, of_mode, list_room}
use Rattle.list_meaning.specs.Order.{meets, reached, granted, right, honest, covers_all, qualifies}
use Rattle.list_meaning.specs.Greedy.{followed, new, fits, addable, next, list_to, greedy, left_by, order_fault, listed_of, places_of}
use Rattle.list_meaning.specs.Calls.{list_early, list_before, list_answer, list_after}

-- a picture and what the calls answer, with buffers that suffice
pub record Case : Type 0 where
  pub picture : Picture
  -- the judge's refusal, if any
  pub judged : Option Refusal
  -- some pairs of a user and a file, and the replies
  pub entries : List (ℕ × ℕ × Result Entry Refusal)
  -- the matrix
  pub bytes : List ℕ
  pub numbers : List ℕ
  -- the answer of the call for a list, and the list places at the end, of which each of the needed ones held 7
  pub listed : Result ℕ Refusal
  pub places : List ℕ
  -- some lists, and whether they qualify
  pub lists : List (List ℕ × Bool)

abbrev default : ℕ
default = 65535

unfoldable pub table : List Case
table =
    -- A: no boxes
    record {
      picture = picture-A;
      judged = none;
      entries = [];
      bytes = [];
      numbers = [];
      listed = Ok 0;
      places = [];
      lists = ([], true) ∷ [];
    }
    -- B: an arrow from a user overrides one from its group
    ∷ record {
      picture = picture-B;
      judged = none;
      entries = (0, 3, Ok (Granted 0)) ∷ (1, 3, Ok (Denied 1)) ∷ [];
      bytes = 1 ∷ 0 ∷ [];
      numbers = 0 ∷ 1 ∷ [];
      listed = Ok 2;
      places = 0 ∷ 1 ∷ [];
      lists = (0 ∷ 1 ∷ [], true) ∷ (0 ∷ [], true) ∷ (1 ∷ 0 ∷ [], false) ∷ (0 ∷ 0 ∷ [], false) ∷ ([], false) ∷ [];
    }
    -- C: both signs between the same two boxes
    ∷ record {
      picture = picture-C;
      judged = some (UnclearPair 0 0 1);
      entries = (0, 1, Ok (Unclear 0 1)) ∷ [];
      bytes = 2 ∷ [];
      numbers = default ∷ [];
      listed = Err (UnclearPair 0 0 1);
      places = 7 ∷ 7 ∷ [];
      lists = [];
    }
    -- D: a user in two groups
    ∷ record {
      picture = picture-D;
      judged = some (UnclearPair 0 0 3);
      entries = (0, 3, Ok (Unclear 0 1)) ∷ [];
      bytes = 2 ∷ [];
      numbers = default ∷ [];
      listed = Err (UnclearPair 0 0 3);
      places = 7 ∷ 7 ∷ [];
      lists = [];
    }
    -- E: D, settled by an arrow from the user
    ∷ record {
      picture = picture-E;
      judged = none;
      entries = (0, 3, Ok (Granted 2)) ∷ [];
      bytes = 1 ∷ [];
      numbers = 2 ∷ [];
      listed = Ok 1;
      places = 0 ∷ 7 ∷ 7 ∷ [];
      lists = (2 ∷ [], true) ∷ (1 ∷ 2 ∷ [], false) ∷ [];
    }
    -- F: one arrow is deeper by its tail, the other by its head
    ∷ record {
      picture = picture-F;
      judged = some (UnclearPair 0 0 2);
      entries = (0, 2, Ok (Unclear 0 1)) ∷ [];
      bytes = 2 ∷ [];
      numbers = default ∷ [];
      listed = Err (UnclearPair 0 0 2);
      places = 7 ∷ 7 ∷ [];
      lists = [];
    }
    -- G: no arrow
    ∷ record {
      picture = picture-G;
      judged = none;
      entries = (0, 1, Ok Default) ∷ [];
      bytes = 0 ∷ [];
      numbers = default ∷ [];
      listed = Ok 0;
      places = [];
      lists = ([], true) ∷ [];
    }
    -- H: a box contains itself
    ∷ record {
      picture = picture-H;
      judged = some (InItself 0);
      entries = (0, 0, Err (InItself 0)) ∷ [];
      bytes = [];
      numbers = [];
      listed = Err (InItself 0);
      places = [];
      lists = [];
    }
    -- I: two arrows of one sign, and the lower number is shown
    ∷ record {
      picture = picture-I;
      judged = none;
      entries = (0, 2, Ok (Granted 0)) ∷ [];
      bytes = 1 ∷ [];
      numbers = 0 ∷ [];
      listed = Ok 1;
      places = 0 ∷ 7 ∷ [];
      lists = (0 ∷ [], true) ∷ [];
    }
    -- J: the ring, clear and without a list
    ∷ record {
      picture = picture-J;
      judged = none;
      entries =
          (0, 6, Ok (Denied 1)) ∷ (0, 7, Ok (Granted 0))
          ∷ (1, 6, Ok (Granted 2)) ∷ (1, 7, Ok (Denied 3)) ∷ [];
      bytes = 0 ∷ 1 ∷ 1 ∷ 0 ∷ [];
      numbers = 1 ∷ 0 ∷ 2 ∷ 3 ∷ [];
      listed = Err (NoOrder 0 0 7);
      places = default ∷ default ∷ default ∷ default ∷ [];
      lists = (0 ∷ 1 ∷ 2 ∷ 3 ∷ [], false) ∷ [];
    }
    ∷ []

unfoldable pub groups : List Case
groups =
    -- the arrow reaches nothing, the group is no user, and user 0 is denied by default
    record {
      picture = emptied-group;
      judged = none;
      entries = (0, 2, Ok Default) ∷ (1, 2, Err (NotAtomic 1 2)) ∷ [];
      bytes = 0 ∷ [];
      numbers = default ∷ [];
      listed = Ok 0;
      places = 7 ∷ [];
      lists = ([], true) ∷ [];
    }
    -- a box around an emptied group holds no user and is none
    ∷ record {
      picture = around-emptied;
      judged = none;
      entries = (0, 3, Ok (Denied 1)) ∷ (1, 3, Err (NotAtomic 1 3)) ∷ (2, 3, Err (NotAtomic 2 3)) ∷ [];
      bytes = 0 ∷ [];
      numbers = 1 ∷ [];
      listed = Ok 1;
      places = 1 ∷ 7 ∷ [];
      lists = (1 ∷ [], true) ∷ (0 ∷ [], true) ∷ [];
    }
    -- no pairs at all
    ∷ record {
      picture = emptied-both;
      judged = none;
      entries = (0, 1, Err (NotAtomic 0 1)) ∷ [];
      bytes = [];
      numbers = [];
      listed = Ok 0;
      places = 7 ∷ [];
      lists = ([], true) ∷ [];
    }
    -- beside groups and folders that hold something
    ∷ record {
      picture = groups-left;
      judged = none;
      entries =
          (0, 4, Ok (Granted 0)) ∷ (1, 4, Ok (Granted 0))
          ∷ (3, 4, Err (NotAtomic 3 4)) ∷ (0, 6, Err (NotAtomic 0 6)) ∷ [];
      bytes = 1 ∷ 1 ∷ [];
      numbers = 0 ∷ 0 ∷ [];
      listed = Ok 1;
      places = 0 ∷ 7 ∷ 7 ∷ [];
      lists = (0 ∷ [], true) ∷ (1 ∷ 2 ∷ 0 ∷ [], true) ∷ ([], false) ∷ [];
    }
    ∷ []

-- the same picture and questions, with what the definitions say
unfoldable pub compute : Case → Case
compute c =
    let pic = c.picture in
    let square = replicate {A = ℕ} (length pic.boxes * length pic.boxes) 0 in
    let lent = replicate {A = ℕ} (list_room pic 0) 7 in
    record {
      picture = c.picture;
      judged = judge_fault pic square;
      entries = map
          (λ q. (q.0, q.1, reply_of (entry_fault pic square 0 q.0 q.1) (answer pic 0 q.0 q.1)))
          c.entries;
      bytes = matrix_bytes pic 0;
      numbers = matrix_numbers pic 0;
      listed = list_answer pic 0 (list_before pic 0 square lent square);
      places = list_after pic 0 (list_before pic 0 square lent square) lent;
      lists = map (λ q. (q.0, qualifies pic 0 q.0)) c.lists;
    }

both_right : (map compute table ≡ table) × (map compute groups ≡ groups)
unfolding compute table groups picture-A picture-B picture-C picture-D picture-E picture-F picture-G picture-H picture-I picture-J
    emptied-group around-emptied emptied-both groups-left
    or_else given first lowest every select build side_of is_group on_side outer atom atoms pair_count
    ragged_fault count_fault byte_fault names_no_box across_sides wrong_ends wrong_mode row_fault table_fault mode_fault room_fault
    contains around loop_fault scratch_fault early_fault mode_early picture_fault
    has_mode mode_arrows reaches nests level overrides settle hits certifies answer byte_of number_of is_granted is_unclear
    user_at file_at answer_at matrix_bytes matrix_numbers unclear_fault any_unclear
    asked_fault entry_fault judge_fault reply_of
    any_of all_of first_of passes distinct gives of_mode meets reached granted right honest covers_all qualifies
    new fits addable followed next list_to greedy left_by order_fault list_early list_before listed_of places_of list_answer list_after written
both_right = (refl, refl)

pub table-right : map compute table ≡ table
table-right = both_right.0

pub groups-right : map compute groups ≡ groups
groups-right = both_right.1

-- how many pairs and lists are asked about
abbrev asked : Case → Picture × ℕ × ℕ
asked c = (c.picture, length c.entries, length c.lists)

-- none of A to J is missing from the table, and none of their pairs and lists
pub table-whole : map asked table
    ≡ (picture-A, 0, 1) ∷ (picture-B, 2, 5) ∷ (picture-C, 1, 0) ∷ (picture-D, 1, 0) ∷ (picture-E, 1, 2)
    ∷ (picture-F, 1, 0) ∷ (picture-G, 1, 1) ∷ (picture-H, 1, 0) ∷ (picture-I, 1, 1) ∷ (picture-J, 4, 1) ∷ []
unfolding table
table-whole = refl
