-- Sheets with their output, byte for byte.
use Rattle.std.specs.Prelude.{◌≡◌, List, [], ◌∷◌, ◌++◌, ℕ, replicate}
use Prim.Native.String.{String}
use Rattle.text.specs.Bytes.{bytes_of}
use Rattle.feed.specs.Whole.{output_of}

pub record Sheet : Type 0 where
  pub input : List ℕ
  pub output : List ℕ

-- document 01's sheet, with price 1 beside every label, and its four items before `open`
abbrev pub document01 : Sheet
document01 = record {
  input = bytes_of "cells\t5\nitem\t0\t3\t1\nitem\t1\t8\t1\nitem\t0\t13\t1\nitem\t1\t4\t1\nopen\t1\t2\t1\t0\norder\t0\norder\t1\nrun\norder\t2\n"
      ++ bytes_of "order\t3\nrun\nclose\nlist\n";
  output = bytes_of "1\tok\n2\tok\n3\tok\n4\tok\n5\tok\n6\tok\n7\tok\n8\tok\n9\tdone\tdone\n10\tok\n11\tok\n12\tdone\tdone\n13\tok\n"
      ++ bytes_of "14\t4\t4\t1\t3\t1\t13\t1\t8\t1\n";
}

-- A put-in shift with refusals. At opening an item for worker 1 of one gets 6, and three labels for three cells get 9; an order past the list gets 15, one to
-- a worker who is busy 8. Line 0 is given twice.
abbrev pub putting_in : Sheet
putting_in = record {
  input = bytes_of "list\nrun\nturn\t0\norder\tx\ncells\t1\nitem\t0\t4\t1\ncells\t3\nopen\t1\t17\t1\t0\nopen\t4\t1\t1\t0\nitem\t1\t8\t9999999\n"
      ++ bytes_of "item\t0\t6\t5\nopen\t1\t1\t1\t0\nopen\t1\t2\t1\t0\ncells\t4\nopen\t1\t2\t1\t0\norder\t3\norder\t0\norder\t0\nclose\nturn\t0\nturn\t0\n"
      ++ bytes_of "turn\t0\nturn\t2\norder\t1\nrun\norder\t0\nrun\norder\t2\nrun\nclose\norder\t0\nlist\n";
  output = bytes_of "1\trefused\t1\n2\trefused\t11\n3\trefused\t11\n4\trefused\t11\n5\trefused\t1\n6\tok\n7\tok\n8\trefused\t2\n"
      ++ bytes_of "9\trefused\t3\n10\tok\n11\tok\n12\trefused\t6\n13\trefused\t9\n14\tok\n15\tok\n16\trefused\t15\n17\tok\n"
      ++ bytes_of "18\trefused\t8\n19\trefused\t10\n20\ton\n21\tdone\n22\tidle\n23\trefused\t6\n24\tok\n25\t-\tdone\n26\tok\n"
      ++ bytes_of "27\tdone\t-\n28\tok\n29\tdone\t-\n30\tok\n31\trefused\t11\n32\t3\t8\t9999999\t4\t1\t6\t5\n";
}

-- Every answer: on, done, a price, no, idle, -, each refusal that a sheet can give (1, 2, 3, 6 to 11, 14, 15, 18; 17 is in the next, 21 in `even_refused`,
-- 24 in `test_numbers`), and bad, behind which no line is answered. After the sheet before, 8 is taken out, the table is listed while 4 stands twice, and
-- labels are looked up. A sheet gives no 4, since its tables have an empty cell and right prices; no 5, since `cells` in an open shift is bad and a shut
-- one answers 11 first; no 12, since the list lent is as long as the table; no 13, since no record is spoilt; and no 16, since it keeps at most 1,024
-- items.
abbrev pub every : Sheet
every = record {
  input = putting_in.input
      ++ bytes_of "open\t2\t2\t1\t0\norder\t0\t0\norder\t2\t0\norder\t0\t8\norder\t0\t0\nturn\t0\nturn\t0\nturn\t0\nturn\t0\nturn\t0\nlist\n"
      ++ bytes_of "run\nclose\nlist\nopen\t3\t2\t1\t0\norder\t0\t4\norder\t1\t5\nrun\norder\t1\t4\nrun\nturn\t1\nturn\t2\nclose\n"
      ++ bytes_of "item\t0\t9\t0\nopen\t1\t1\t1\t0\nopen\t3\t1\t1\t0\ncells\t2\nlist\n";
  output = putting_in.output
      ++ bytes_of "33\tok\n34\trefused\t7\n35\trefused\t6\n36\tok\n37\trefused\t8\n38\ton\n39\ton\n40\ton\n41\ton\n42\ton\n"
      ++ bytes_of "43\trefused\t18\n44\tdone\t-\n45\tok\n46\t2\t4\t1\t6\t5\n47\tok\n48\tok\n49\tok\n50\t1\tno\n51\tok\n52\t-\t1\n"
      ++ bytes_of "53\tidle\n54\trefused\t6\n55\tok\n56\tok\n57\trefused\t14\n58\tok\n59\tbad\n";
}

-- Two take-outs at once: when the table is listed, 4 stands in cell 1, and its home, cell 0, is empty.
abbrev pub gapped : Sheet
gapped = record {
  input = bytes_of "cells\t4\nitem\t0\t8\t1\nitem\t0\t9\t2\nitem\t0\t4\t3\nopen\t1\t1\t1\t0\norder\t0\nrun\norder\t1\nrun\norder\t2\nrun\nclose\nlist\n"
      ++ bytes_of "open\t2\t2\t1\t0\norder\t0\t4\nturn\t0\nturn\t0\nturn\t0\nturn\t0\nturn\t0\norder\t1\t9\nturn\t1\nturn\t1\nturn\t1\nturn\t0\n"
      ++ bytes_of "order\t0\t8\nturn\t0\nturn\t0\nturn\t0\nturn\t0\nturn\t0\nturn\t0\nturn\t1\nlist\nrun\nclose\nlist\n";
  output = bytes_of "1\tok\n2\tok\n3\tok\n4\tok\n5\tok\n6\tok\n7\tdone\n8\tok\n9\tdone\n10\tok\n11\tdone\n12\tok\n13\t3\t8\t1\t9\t2\t4\t3\n"
      ++ bytes_of "14\tok\n15\tok\n16\ton\n17\ton\n18\ton\n19\ton\n20\ton\n21\tok\n22\ton\n23\ton\n24\ton\n25\tdone\n"
      ++ bytes_of "26\tok\n27\ton\n28\ton\n29\ton\n30\ton\n31\ton\n32\tdone\n33\ton\n34\trefused\t17\n35\t-\tdone\n36\tok\n37\t0\n";
}

-- The lower price stands: two workers order 3 at different prices; a lower price replaces it, a higher one and the same one change nothing, also in the
-- next shift.
abbrev pub cheapest : Sheet
cheapest = record {
  input = bytes_of "cells\t5\nitem\t0\t3\t500\nitem\t1\t3\t400\nitem\t0\t3\t450\nitem\t1\t8\t70\nopen\t1\t2\t1\t0\norder\t0\norder\t1\nrun\n"
      ++ bytes_of "order\t2\norder\t3\nrun\nclose\nlist\nitem\t0\t3\t399\nitem\t1\t8\t70\nopen\t1\t2\t1\t0\norder\t0\norder\t1\nrun\nclose\n"
      ++ bytes_of "list\n";
  output = bytes_of "1\tok\n2\tok\n3\tok\n4\tok\n5\tok\n6\tok\n7\tok\n8\tok\n9\tdone\tdone\n10\tok\n11\tok\n12\tdone\tdone\n13\tok\n"
      ++ bytes_of "14\t2\t8\t70\t3\t400\n15\tok\n16\tok\n17\tok\n18\tok\n19\tok\n20\tdone\tdone\n21\tok\n22\t2\t8\t70\t3\t399\n";
}

-- Labels that are pushed on, or fill a hole, take their prices along. Look-ups tell the prices, in a run and in turns.
abbrev pub carried : Sheet
carried = record {
  input = bytes_of "cells\t5\nitem\t0\t3\t399\nitem\t1\t8\t70\nitem\t0\t13\t6000000\nopen\t1\t2\t1\t0\norder\t0\norder\t1\nrun\norder\t2\nrun\n"
      ++ bytes_of "close\nlist\nopen\t3\t2\t1\t0\norder\t0\t8\norder\t1\t3\nrun\norder\t0\t4\norder\t1\t13\nturn\t0\nturn\t1\nturn\t0\nclose\n"
      ++ bytes_of "open\t2\t1\t1\t0\norder\t0\t13\nrun\nclose\nlist\n";
  output = bytes_of "1\tok\n2\tok\n3\tok\n4\tok\n5\tok\n6\tok\n7\tok\n8\tdone\tdone\n9\tok\n10\tdone\t-\n11\tok\n"
      ++ bytes_of "12\t3\t3\t399\t13\t6000000\t8\t70\n13\tok\n14\tok\n15\tok\n16\t70\t399\n17\tok\n18\tok\n19\ton\n20\t6000000\n21\tno\n"
      ++ bytes_of "22\tok\n23\tok\n24\tok\n25\tdone\n26\tok\n27\t2\t8\t70\t3\t399\n";
}

-- Two workers meet at an empty cell: both have read it, the first replaces it, the second fails and reads again. It replaces the higher price, and leaves
-- the lower one and the same one.
abbrev pub meeting : Sheet
meeting = record {
  input = bytes_of "cells\t4\nitem\t0\t3\t9\nitem\t1\t3\t8\nopen\t1\t2\t1\t0\norder\t0\norder\t1\nturn\t0\nturn\t1\nturn\t0\nturn\t1\nturn\t1\n"
      ++ bytes_of "turn\t1\nclose\nlist\ncells\t4\nitem\t0\t3\t9\nitem\t1\t3\t8\nopen\t1\t2\t1\t0\norder\t0\norder\t1\nturn\t0\nturn\t1\n"
      ++ bytes_of "turn\t1\nturn\t0\nturn\t0\nclose\nlist\ncells\t4\nitem\t0\t3\t9\nitem\t1\t3\t9\nopen\t1\t2\t1\t0\norder\t0\norder\t1\n"
      ++ bytes_of "turn\t0\nturn\t1\nturn\t0\nturn\t1\nturn\t1\nclose\nlist\n";
  output = bytes_of "1\tok\n2\tok\n3\tok\n4\tok\n5\tok\n6\tok\n7\ton\n8\ton\n9\tdone\n10\ton\n11\ton\n12\tdone\n13\tok\n14\t1\t3\t8\n"
      ++ bytes_of "15\tok\n16\tok\n17\tok\n18\tok\n19\tok\n20\tok\n21\ton\n22\ton\n23\tdone\n24\ton\n25\tdone\n26\tok\n27\t1\t3\t8\n"
      ++ bytes_of "28\tok\n29\tok\n30\tok\n31\tok\n32\tok\n33\tok\n34\ton\n35\ton\n36\tdone\n37\ton\n38\tdone\n39\tok\n40\t1\t3\t9\n";
}

-- Three workers meet: the second replaces the price of the first, and the third, who has read that too, then leaves the lower one.
abbrev pub three : Sheet
three = record {
  input = bytes_of "cells\t5\nitem\t0\t3\t30\nitem\t1\t3\t10\nitem\t2\t3\t20\nopen\t1\t3\t1\t0\norder\t0\norder\t1\norder\t2\nturn\t0\nturn\t1\n"
      ++ bytes_of "turn\t2\nturn\t0\nturn\t1\nturn\t2\nturn\t1\nturn\t2\nturn\t1\nturn\t2\nturn\t2\nclose\nlist\n";
  output = bytes_of "1\tok\n2\tok\n3\tok\n4\tok\n5\tok\n6\tok\n7\tok\n8\tok\n9\ton\n10\ton\n11\ton\n12\tdone\n13\ton\n14\ton\n15\ton\n"
      ++ bytes_of "16\ton\n17\tdone\n18\ton\n19\tdone\n20\tok\n21\t1\t3\t10\n";
}

-- The items are kept by refused openings, in shifts of other kinds and by their close, by `cells` and by a refused close; the close of a put-in shift clears
-- them, and the next one opens without any.
abbrev pub kept : Sheet
kept = record {
  input = bytes_of "cells\t3\nitem\t0\t8\t70\nitem\t1\t5\t9\nopen\t1\t0\t1\t0\nopen\t1\t2\t1\t0\norder\t0\nclose\norder\t1\nrun\nclose\nlist\n"
      ++ bytes_of "open\t1\t1\t1\t0\norder\t0\nclose\nitem\t0\t5\t20\nitem\t1\t3\t6\nopen\t1\t1\t1\t0\nopen\t3\t1\t1\t0\norder\t0\t8\nrun\nclose\n"
      ++ bytes_of "open\t2\t1\t1\t0\norder\t0\t5\nrun\nclose\ncells\t2\nopen\t1\t2\t1\t0\ncells\t4\nopen\t1\t2\t1\t0\norder\t1\nrun\norder\t0\nrun\nclose\n"
      ++ bytes_of "open\t1\t2\t1\t0\norder\t0\nclose\nlist\n";
  output = bytes_of "1\tok\n2\tok\n3\tok\n4\trefused\t2\n5\tok\n6\tok\n7\trefused\t10\n8\tok\n9\tdone\tdone\n10\tok\n11\t2\t5\t9\t8\t70\n"
      ++ bytes_of "12\tok\n13\trefused\t15\n14\tok\n15\tok\n16\tok\n17\trefused\t6\n18\tok\n19\tok\n20\t70\n21\tok\n22\tok\n23\tok\n"
      ++ bytes_of "24\tdone\n25\tok\n26\tok\n27\trefused\t9\n28\tok\n29\tok\n30\tok\n31\t-\tdone\n32\tok\n33\tdone\t-\n34\tok\n35\tok\n"
      ++ bytes_of "36\trefused\t15\n37\tok\n38\t2\t5\t20\t3\t6\n";
}

-- The 2-cell table with 7 opens for a list of 7 alone, whose line may be given twice; another label gets 9.
abbrev pub seven : Sheet
seven = record {
  input = bytes_of "cells\t2\nitem\t0\t7\t1\nopen\t1\t1\t1\t0\norder\t0\nrun\nclose\nlist\nitem\t0\t7\t1\nopen\t1\t1\t1\t0\norder\t0\nrun\norder\t0\n"
      ++ bytes_of "run\nclose\nlist\nitem\t0\t7\t1\nitem\t0\t6\t1\nopen\t1\t1\t1\t0\nopen\t3\t1\t1\t0\norder\t0\t7\nrun\nclose\nlist\n";
  output = bytes_of "1\tok\n2\tok\n3\tok\n4\tok\n5\tdone\n6\tok\n7\t1\t7\t1\n8\tok\n9\tok\n10\tok\n11\tdone\n12\tok\n13\tdone\n14\tok\n"
      ++ bytes_of "15\t1\t7\t1\n16\tok\n17\tok\n18\trefused\t9\n19\tok\n20\tok\n21\t1\n22\tok\n23\t1\t7\t1\n";
}

-- A grocer re-sends the entire assortment to a table with one empty cell: no label is new, so the shift opens, and it closes with the lower prices. One new
-- label gets 9, and the table is kept.
abbrev pub grocer : Sheet
grocer = record {
  input = bytes_of "cells\t4\nitem\t0\t4\t50\nitem\t1\t8\t60\nitem\t0\t6\t70\nopen\t1\t2\t1\t0\norder\t0\norder\t1\nrun\norder\t2\nrun\nclose\n"
      ++ bytes_of "list\nitem\t0\t4\t40\nitem\t1\t8\t30\nitem\t1\t6\t70\nitem\t0\t6\t69\nopen\t1\t2\t1\t0\norder\t0\norder\t1\nrun\norder\t2\n"
      ++ bytes_of "order\t3\nrun\nclose\nlist\nitem\t0\t4\t39\nitem\t0\t8\t29\nitem\t0\t6\t1\nitem\t0\t5\t9\nopen\t1\t2\t1\t0\nclose\nlist\n";
  output = bytes_of "1\tok\n2\tok\n3\tok\n4\tok\n5\tok\n6\tok\n7\tok\n8\tdone\tdone\n9\tok\n10\tdone\t-\n11\tok\n"
      ++ bytes_of "12\t3\t8\t60\t4\t50\t6\t70\n13\tok\n14\tok\n15\tok\n16\tok\n17\tok\n18\tok\n19\tok\n20\tdone\tdone\n21\tok\n22\tok\n"
      ++ bytes_of "23\tdone\tdone\n24\tok\n25\t3\t8\t30\t4\t40\t6\t69\n26\tok\n27\tok\n28\tok\n29\tok\n30\trefused\t9\n31\trefused\t11\n"
      ++ bytes_of "32\t3\t8\t30\t4\t40\t6\t69\n";
}

-- What is wrong with the items is asked at the opening of a put-in shift alone: label 0 before the price, the price before the worker, and all before 9.
abbrev pub without_label : Sheet
without_label = record {
  input = bytes_of "cells\t2\nitem\t9\t0\t0\nopen\t1\t1\t1\t0\nitem\t0\t3\t0\nitem\t0\t4\t1\nopen\t1\t1\t1\t0\nopen\t1\t17\t1\t0\nopen\t3\t1\t1\t0\nclose\n"
      ++ bytes_of "open\t2\t1\t1\t0\nclose\nlist\n";
  output = bytes_of "1\tok\n2\tok\n3\trefused\t7\n4\tok\n5\tok\n6\trefused\t7\n7\trefused\t2\n8\tok\n9\tok\n10\tok\n11\tok\n12\t0\n";
}

abbrev pub without_price : Sheet
without_price = record {
  input = bytes_of "cells\t2\nitem\t9\t3\t0\nopen\t1\t1\t1\t0\nitem\t0\t0\t1\nitem\t0\t4\t1\nopen\t1\t1\t1\t0\nopen\t1\t10\t1\t0\n";
  output = bytes_of "1\tok\n2\tok\n3\trefused\t14\n4\tok\n5\tok\n6\trefused\t14\n7\trefused\t14\n";
}

abbrev pub overpriced : Sheet
overpriced = record {
  input = bytes_of "cells\t5\nitem\t0\t3\t9999999\nitem\t0\t3\t10000000\nopen\t1\t1\t1\t0\nitem\t0\t3\t4294967295\nopen\t1\t1\t1\t0\nopen\t2\t1\t1\t0\n";
  output = bytes_of "1\tok\n2\tok\n3\tok\n4\trefused\t14\n5\tok\n6\trefused\t14\n7\tok\n";
}

-- a label for factory tests is refused in a list, here before its price and its worker, and looked up and taken out like any other
abbrev pub test_numbers : Sheet
test_numbers = record {
  input = bytes_of "cells\t2\nitem\t9\t4000000000\t0\nopen\t1\t1\t1\t0\nopen\t3\t1\t1\t0\norder\t0\t4000000000\nrun\nclose\n"
      ++ bytes_of "open\t2\t1\t1\t0\norder\t0\t4294967295\nrun\nclose\n";
  output = bytes_of "1\tok\n2\tok\n3\trefused\t24\n4\tok\n5\tok\n6\tno\n7\tok\n8\tok\n9\tok\n10\tdone\n11\tok\n";
}

-- the earliest line decides, also where a later one has a fault that is asked first; which one that is depends on the worker count
abbrev pub earliest : Sheet
earliest = record {
  input = bytes_of "cells\t3\nitem\t1\t3\t1\nitem\t3\t6\t1\nitem\t0\t0\t0\nopen\t1\t1\t1\t0\nopen\t1\t2\t1\t0\nopen\t1\t3\t1\t0\nopen\t1\t4\t1\t0\n";
  output = bytes_of "1\tok\n2\tok\n3\tok\n4\tok\n5\trefused\t6\n6\trefused\t6\n7\trefused\t6\n8\trefused\t7\n";
}

-- Homes that spread (document 02, point 6). An even a gets 21, behind 1, 2 and 3 and before what is wrong with the items, also where they are not read; an
-- odd one opens, up to the greatest. Before any opening `list` goes by a of 1 and b of 0.
abbrev pub even_refused : Sheet
even_refused = record {
  input = bytes_of "list\nopen\t4\t17\t2\t0\ncells\t5\nlist\nopen\t4\t17\t2\t0\nopen\t4\t1\t2\t0\nopen\t3\t1\t0\t0\n"
      ++ bytes_of "open\t2\t1\t4294967294\t5\nitem\t0\t3\t1\nitem\t0\t8\t1\nitem\t9\t0\t0\nopen\t1\t2\t2\t1\nopen\t1\t2\t3\t1\n"
      ++ bytes_of "open\t1\t2\t4294967295\t4294967295\nopen\t3\t2\t4294967295\t4294967295\nlist\n";
  output = bytes_of "1\trefused\t1\n2\trefused\t1\n3\tok\n4\t0\n5\trefused\t2\n6\trefused\t3\n7\trefused\t21\n8\trefused\t21\n9\tok\n"
      ++ bytes_of "10\tok\n11\tok\n12\trefused\t21\n13\trefused\t7\n14\trefused\t7\n15\tok\n16\t0\n";
}

-- By a of 3 and b of 1 the homes of 3, 8 and 13 in five cells are cell 0, that of 4 is cell 3. `list` goes by the a and b of the last accepted opening: a
-- refused one, by 1 and 0 (18) or by an even a, changes nothing there, nor do a refused `cells` and a close; `turn` and `close` then still answer 11.
abbrev pub spread : Sheet
spread = record {
  input = bytes_of "cells\t5\nitem\t0\t3\t1\nitem\t0\t8\t2\nitem\t1\t13\t3\nitem\t1\t4\t4\nopen\t1\t2\t3\t1\norder\t0\norder\t2\nrun\n"
      ++ bytes_of "order\t1\norder\t3\nrun\nlist\nclose\nlist\nopen\t2\t1\t1\t0\nlist\ncells\t1\nopen\t3\t1\t2\t1\nlist\nturn\t0\nclose\n"
      ++ bytes_of "open\t2\t1\t3\t1\norder\t0\t13\nrun\nclose\nlist\ncells\t4\nlist\nopen\t3\t1\t1\t0\nclose\nlist\n";
  output = bytes_of "1\tok\n2\tok\n3\tok\n4\tok\n5\tok\n6\tok\n7\tok\n8\tok\n9\tdone\tdone\n10\tok\n11\tok\n12\tdone\tdone\n"
      ++ bytes_of "13\t4\t13\t3\t8\t2\t3\t1\t4\t4\n14\tok\n15\t4\t13\t3\t8\t2\t3\t1\t4\t4\n16\trefused\t18\n"
      ++ bytes_of "17\t4\t13\t3\t8\t2\t3\t1\t4\t4\n18\trefused\t1\n19\trefused\t21\n20\t4\t13\t3\t8\t2\t3\t1\t4\t4\n21\trefused\t11\n"
      ++ bytes_of "22\trefused\t11\n23\tok\n24\tok\n25\tdone\n26\tok\n27\t3\t8\t2\t3\t1\t4\t4\n28\tok\n29\t0\n30\tok\n31\tok\n32\t0\n";
}

-- In three cells 4 and 2 stand alike by 1 and 0 and by 3 and 1; once 4 is taken out by 3 and 1, 2 stands where 1 and 0 find it wrong (17): the last accepted
-- opening counts, not the first, nor the last of a put-in shift.
abbrev pub reopened : Sheet
reopened = record {
  input = bytes_of "cells\t3\nitem\t0\t4\t1\nitem\t0\t2\t2\nopen\t1\t1\t1\t0\norder\t0\nrun\norder\t1\nrun\nclose\nlist\n"
      ++ bytes_of "open\t2\t1\t3\t1\norder\t0\t4\nrun\nclose\nlist\nopen\t3\t1\t1\t0\nlist\n";
  output = bytes_of "1\tok\n2\tok\n3\tok\n4\tok\n5\tok\n6\tdone\n7\tok\n8\tdone\n9\tok\n10\t2\t4\t1\t2\t2\n11\tok\n12\tok\n13\tdone\n"
      ++ bytes_of "14\tok\n15\t1\t2\t2\n16\trefused\t17\n17\t1\t2\t2\n";
}

-- no byte, no line
abbrev pub empty : Sheet
empty = record { input = []; output = [] }

-- an empty line is bad
abbrev pub blank_line : Sheet
blank_line = record { input = bytes_of "\nlist\n"; output = bytes_of "1\tbad\n" }

-- a last line that no newline ends
abbrev pub unended : Sheet
unended = record { input = bytes_of "cells\t2\nlist"; output = bytes_of "1\tok\n2\t0\n" }

-- very long lines: an order of 10,000 digits in a shut shift is refused, and 10,000 blanks behind `list` make it bad
abbrev pub long : Sheet
long = record {
  input = bytes_of "order\t0\t" ++ replicate 10000 49 ++ bytes_of "\ncells\t2\nlist" ++ replicate 10000 32 ++ bytes_of "\nlist\n";
  output = bytes_of "1\trefused\t11\n2\tok\n3\tbad\n";
}

-- a carriage return does not end a line and is no part of a readable one
abbrev pub carriage_return : Sheet
carriage_return = record { input = bytes_of "cells\t2\r\nlist\n"; output = bytes_of "1\tbad\n" }

-- in a shut shift `close`, `turn` and every `order` answer 11, with whatever numbers; tables have 2 to 4,096 cells; a refused `cells` keeps the old table,
-- another one is fresh; a run of idle workers gives - for each; a turn of a look-up tells the price or no
abbrev pub shut : Sheet
shut = record {
  input = bytes_of "close\norder\norder\t0\norder\t0\t3\norder\t0\t3\t1\norder\t0\t3\t1\t1\nopen\t1\t1\t1\t0\ncells\t4097\ncells\t4096\n"
      ++ bytes_of "cells\t3\nitem\t0\t3999999999\t9999999\nopen\t1\t2\t1\t0\nrun\norder\t0\nrun\nclose\nclose\norder\t0\norder\t0\t6\nturn\t0\n"
      ++ bytes_of "cells\t1\nlist\ncells\t4097\nlist\nopen\t3\t1\t1\t0\norder\t0\t3999999999\nturn\t0\norder\t0\t3\nturn\t0\nturn\t0\nclose\n"
      ++ bytes_of "cells\t4\nlist\n";
  output = bytes_of "1\trefused\t11\n2\trefused\t11\n3\trefused\t11\n4\trefused\t11\n5\trefused\t11\n6\trefused\t11\n7\trefused\t1\n"
      ++ bytes_of "8\trefused\t1\n9\tok\n10\tok\n11\tok\n12\tok\n13\t-\t-\n14\tok\n15\tdone\t-\n16\tok\n17\trefused\t11\n"
      ++ bytes_of "18\trefused\t11\n19\trefused\t11\n20\trefused\t11\n21\trefused\t1\n22\t1\t3999999999\t9999999\n23\trefused\t1\n"
      ++ bytes_of "24\t1\t3999999999\t9999999\n25\tok\n26\tok\n27\t9999999\n28\tok\n29\ton\n30\tno\n31\tok\n32\tok\n33\t0\n";
}

-- a line that is bad in a shut shift, and in an open one of a kind
abbrev pub bad_first : String → Sheet
bad_first line = record { input = bytes_of line ++ bytes_of "\nlist\n"; output = bytes_of "1\tbad\n" }

abbrev pub bad_in : String → String → Sheet
bad_in kind line =
    record {
      input = bytes_of "cells\t2\nopen\t" ++ bytes_of kind ++ bytes_of "\t1\t1\t0\n" ++ bytes_of line ++ bytes_of "\nlist\n";
      output = bytes_of "1\tok\n2\tok\n3\tbad\n";
    }

-- a sheet prints its output
abbrev pub Prints : Sheet → Type 0
Prints s = output_of s.input ≡ s.output

abbrev pub AllPrint : List Sheet → Type 0
AllPrint [] = Unit {0}
AllPrint (s ∷ ss) = Prints s × AllPrint ss

-- those that must-fail edits change stand first: computing ends at the first that prints otherwise
abbrev pub sheets : List Sheet
sheets =
    without_price ∷ test_numbers ∷ earliest ∷ seven ∷ grocer ∷ cheapest ∷ carried ∷ document01 ∷ putting_in ∷ every ∷ gapped ∷ meeting ∷ three ∷ kept ∷ without_label ∷ overpriced
    ∷ even_refused ∷ spread ∷ reopened
    ∷ empty ∷ blank_line ∷ unended ∷ long ∷ carriage_return ∷ shut
    -- `open` with other numbers than four
    ∷ bad_first "open\t1\t1" ∷ bad_first "open\t1\t1\t1" ∷ bad_first "open\t1\t1\t1\t0\t0" ∷ bad_first "open\t1\t1\t01\t0" ∷ bad_first "open\t1\t1\t1\t4294967296"
    ∷ bad_in "1" "cells\t2" ∷ bad_in "2" "open\t1\t1\t1\t0" ∷ bad_in "3" "turn" ∷ bad_in "1" ""
    -- an item in an open shift
    ∷ bad_in "1" "item\t0\t3\t1" ∷ bad_in "2" "item\t0\t3\t1" ∷ bad_in "3" "item\t0\t3\t1" ∷ bad_in "1" "item"
    -- an order with a worker and a label in a put-in shift, with a place alone in the others, and with other numbers of fields in any
    ∷ bad_in "1" "order\t0\t3" ∷ bad_in "2" "order\t0" ∷ bad_in "3" "order\t0"
    ∷ bad_in "1" "order" ∷ bad_in "2" "order" ∷ bad_in "1" "order\t0\t3\t1" ∷ bad_in "2" "order\t0\t3\t1" ∷ bad_in "3" "order\t0\t3\t1"
    ∷ bad_in "1" "order\t0\t3\t1\t1"
    -- with a number that is none
    ∷ bad_in "1" "order\t00" ∷ bad_in "1" "order\t" ∷ bad_in "1" "order\t4294967296" ∷ bad_in "3" "order\t0\t03" ∷ bad_in "3" "order\t0\t4294967296"
    -- an item with other numbers of fields than three, or a number that is none
    ∷ bad_first "item" ∷ bad_first "item\t0\t3" ∷ bad_first "item\t0\t3\t1\t1" ∷ bad_first "item\t0\t03\t1" ∷ bad_first "item\t0\t3\t"
    ∷ bad_first "item\t0\t3\t4294967296" ∷ []

abbrev pub SheetsPromise : Type 0
SheetsPromise = AllPrint sheets
