-- What the promises on lines and on sheets say of sheets that are written out. Each is proved by its promises, with nothing left to assume, and not by
-- computing what the sheet prints: a premise that no sheet can meet would be noticed here.
use Rattle.std.specs.Prelude.{◌≡◌, List, [], ◌∷◌, ◌++◌, ℕ, zero, suc, replicate}
use Rattle.text.specs.Bytes.{bytes_of}
use Rattle.text.specs.Digits.{digits_of}
use Rattle.feed.specs.Feed.{begin, fed, replayed}
use Rattle.feed.specs.Promise.{written}
use Rattle.feed.specs.Whole.{lines_of, output_of}

-- lines 1 to n are answered ok
abbrev pub oks : ℕ → List ℕ
oks zero = []
oks (suc n) = oks n ++ (digits_of (suc n) ++ bytes_of "\tok\n")

pub record Corollaries : Type 0 where
  -- a sheet like that of document 01, the first lines, with prices: each answer behind its line's number
  pub two_printed : output_of (bytes_of "cells\t5\nopen\t1\t2\t1\t0\n") ≡ bytes_of "1\tok\n2\tok\n"
  pub seven_lines : output_of (bytes_of "cells\t5\nitem\t0\t3\t20\nitem\t1\t8\t15\nopen\t1\t2\t1\t0\norder\t0\norder\t1\nrun\n")
      ≡ bytes_of "1\tok\n2\tok\n3\tok\n4\tok\n5\tok\n6\tok\n7\tdone\tdone\n"
  -- `list` prints each label followed by its price; a look-up answers the price
  pub priced_list : output_of (bytes_of "cells\t5\nitem\t0\t3\t20\nitem\t1\t8\t15\nopen\t1\t2\t1\t0\norder\t0\norder\t1\nrun\nclose\nlist\n")
      ≡ bytes_of "1\tok\n2\tok\n3\tok\n4\tok\n5\tok\n6\tok\n7\tdone\tdone\n8\tok\n9\t2\t8\t15\t3\t20\n"
  pub price_told :
      output_of (bytes_of "cells\t5\nitem\t0\t3\t20\nitem\t1\t8\t15\nopen\t1\t2\t1\t0\norder\t0\norder\t1\nrun\nclose\nopen\t3\t1\t1\t0\norder\t0\t8\nrun\n")
      ≡ bytes_of "1\tok\n2\tok\n3\tok\n4\tok\n5\tok\n6\tok\n7\tdone\tdone\n8\tok\n9\tok\n10\tok\n11\t15\n"
  -- a put-in order gives a place, the others a worker and a label; another number of fields is `bad`
  pub not_a_place : output_of (bytes_of "cells\t5\nopen\t1\t2\t1\t0\norder\t0\t3\nlist\n") ≡ bytes_of "1\tok\n2\tok\n3\tbad\n"
  pub no_label :
      output_of (bytes_of "cells\t5\nitem\t0\t3\t20\nitem\t1\t8\t15\nopen\t1\t2\t1\t0\norder\t0\norder\t1\nrun\nclose\nopen\t3\t1\t1\t0\norder\t0\nlist\n")
      ≡ bytes_of "1\tok\n2\tok\n3\tok\n4\tok\n5\tok\n6\tok\n7\tdone\tdone\n8\tok\n9\tok\n10\tbad\n"
  -- a place past the list gets 15; behind the close of the put-in shift the list is empty
  pub past_list : output_of (bytes_of "cells\t5\nitem\t0\t3\t20\nitem\t1\t8\t15\nopen\t1\t2\t1\t0\norder\t2\n")
      ≡ bytes_of "1\tok\n2\tok\n3\tok\n4\tok\n5\trefused\t15\n"
  pub cleared :
      output_of (bytes_of "cells\t5\nitem\t0\t3\t20\nitem\t1\t8\t15\nopen\t1\t2\t1\t0\norder\t0\norder\t1\nrun\nclose\nopen\t1\t2\t1\t0\norder\t0\n")
      ≡ bytes_of "1\tok\n2\tok\n3\tok\n4\tok\n5\tok\n6\tok\n7\tdone\tdone\n8\tok\n9\tok\n10\trefused\t15\n"
  -- the items last over a refused `cells` and another, and over a shift of another kind: two labels are too many for two cells (9)
  pub kept : output_of (bytes_of "cells\t5\nitem\t0\t3\t20\nitem\t1\t8\t15\ncells\t1\nopen\t3\t1\t1\t0\nclose\ncells\t2\nopen\t1\t2\t1\t0\n")
      ≡ bytes_of "1\tok\n2\tok\n3\tok\n4\trefused\t1\n5\tok\n6\tok\n7\tok\n8\trefused\t9\n"
  -- in an open shift an item is `bad`, and so is the 1,025th
  pub item_in_open : output_of (bytes_of "cells\t5\nopen\t1\t2\t1\t0\nitem\t0\t3\t20\nlist\n") ≡ bytes_of "1\tok\n2\tok\n3\tbad\n"
  pub past_items : output_of (written (replicate 1025 (bytes_of "item\t0\t3\t20") ++ bytes_of "list" ∷ [])) ≡ oks 1024 ++ bytes_of "1025\tbad\n"
  -- in whatever parts they come
  pub in_parts : replayed begin (bytes_of "cel" ∷ bytes_of "ls\t5\nopen" ∷ [] ∷ bytes_of "\t1\t2\t1\t0\n" ∷ []) ≡ bytes_of "1\tok\n2\tok\n"
  -- a turn of an idle worker; a fresh table has no labels
  pub idle_turn : output_of (bytes_of "cells\t5\nopen\t1\t2\t1\t0\nturn\t1\n") ≡ bytes_of "1\tok\n2\tok\n3\tidle\n"
  pub fresh : output_of (bytes_of "cells\t5\nlist\n") ≡ bytes_of "1\tok\n2\t0\n"
  -- before `cells` the table has length 0; before `open` the shift counts as shut, and every `order` answers 11
  pub no_cells : output_of (bytes_of "open\t1\t2\t1\t0\n") ≡ bytes_of "1\trefused\t1\n"
  pub order_in_shut : output_of (bytes_of "order\tx\n") ≡ bytes_of "1\trefused\t11\n"
  -- a shift opens by other a and b, and its empty table is listed by them (with labels in it: `spread` and `reopened` of the crate sheets); an even a gets 21
  pub spread_list : output_of (bytes_of "cells\t5\nopen\t3\t1\t3\t1\nlist\n") ≡ bytes_of "1\tok\n2\tok\n3\t0\n"
  pub even_is_refused : output_of (bytes_of "cells\t5\nopen\t3\t1\t2\t0\n") ≡ bytes_of "1\tok\n2\trefused\t21\n"
  -- an unreadable line (a leading zero, above 4294967295), and `open` in an open shift, answer `bad` and end the replay
  pub unreadable : output_of (bytes_of "cells\t05\nlist\n") ≡ bytes_of "1\tbad\n"
  pub above : output_of (bytes_of "cells\t4294967296\nlist\n") ≡ bytes_of "1\tbad\n"
  pub open_twice : output_of (bytes_of "cells\t5\nopen\t1\t2\t1\t0\nopen\nlist\n") ≡ bytes_of "1\tok\n2\tok\n3\tbad\n"
  -- and no more need be read
  pub over : (parts : List (List ℕ)) → replayed (fed begin (bytes_of "cells\t05\n")) parts ≡ []
  -- a last line that no newline ends
  pub last_line : lines_of (bytes_of "cells\t2\nlist") ≡ bytes_of "cells\t2" ∷ bytes_of "list" ∷ []
