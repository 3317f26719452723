-- The head of the page: the mark by which it is recognized, its title and its style. There is no script, and nothing is loaded from elsewhere.
--     page_mark          the first bytes of every page
--     head_text title subject    the head of a page that is called so and is of this, and its heading
use Rattle.std.specs.Prelude.{ℕ, List, [], ◌++◌, Option, Some, None, codes}
use Rattle.udfs_page.specs.Escapes.{html_text}
use Rattle.udfs_page.specs.Markups.{markup}

-- a page is recognized by these first bytes
abbrev pub page_mark : List ℕ
page_mark = codes "<!DOCTYPE html>\n<!-- a page of udfsalvage -->\n"

-- colours, by day and by night, and headings
abbrev pub style_base : List ℕ
style_base =
    markup (codes ":root{color-scheme:light dark;--k:#3f9b55;--n:#8c959f;--m:#cf222e;--c:#8250df;--l:#d0d7de;--s:#59636e}\n")
    ++ markup (codes "@media (prefers-color-scheme:dark){:root{--k:#3fa45b;--n:#6e7681;--m:#ff7b72;--c:#bc8cff;--l:#3d444d;--s:#9198a1}}\n")
    ++ markup (codes "body{max-width:60rem;margin:0 auto;padding:1rem;font:1rem/1.5 system-ui,sans-serif}\n")
    ++ markup (codes "h1{font-size:1.5rem;margin:.5rem 0}h2{font-size:1.15rem;margin:2rem 0 .5rem}\n")

-- lines, commands and tables
abbrev pub style_text : List ℕ
style_text =
    markup (codes ".s div{font:.9rem/1.6 ui-monospace,monospace;white-space:pre-wrap;padding-left:11ch;text-indent:-11ch}\n")
    ++ markup (codes ".s div:first-child{font:600 1.1rem/1.6 system-ui,sans-serif;padding:0 0 .4rem;text-indent:0}\n")
    ++ markup (codes "pre{font:.85rem/1.6 ui-monospace,monospace;padding:.6rem .8rem;border:1px solid var(--l);white-space:pre-wrap;overflow-wrap:anywhere}\n")
    ++ markup (codes "table{border-collapse:collapse;width:100%}th,td{padding:.25rem 0 .25rem .8rem;text-align:right;vertical-align:top;white-space:nowrap;border-bottom:1px solid var(--l)}\n")
    ++ markup (codes "th:first-child,td:first-child{padding-left:0;text-align:left;white-space:normal}bdi{overflow-wrap:anywhere}\n")

-- the four marks: each has a width or a pattern of its own
abbrev pub style_picture : List ℕ
style_picture =
    markup (codes "figure{margin:0;display:flex;flex-wrap:wrap;gap:1rem 2rem;align-items:center}figure>svg{width:min(100%,34rem)}\n")
    ++ markup (codes "figcaption{max-width:20rem;flex:1 1 14rem}ul{list-style:none;padding:0}li svg{width:3rem;height:1.3rem;vertical-align:middle;margin-right:.6rem}\n")
    ++ markup (codes "path{fill:none;stroke:var(--k);stroke-width:80}.n{stroke:var(--n);stroke-width:22}\n")
    ++ markup (codes ".m{stroke:var(--m);stroke-width:132}.c{stroke:var(--c);stroke-width:132;stroke-dasharray:26 26}\n")

-- the tree, and paper
abbrev pub style_tree : List ℕ
style_tree =
    markup (codes "details details,details>div{margin-left:1.4rem}details details details details details details details details>*{margin-left:0}details>div{padding-left:1rem}summary{cursor:pointer}small{color:var(--s);margin-left:.7em}\n")
    ++ markup (codes ".t>summary>bdi,.f>summary>bdi,.t>bdi,.f>bdi{color:var(--m);font-weight:600}.i>summary>bdi{color:var(--m)}\n")
    ++ markup (codes "@media print{body{max-width:none;padding:0;font-size:9pt;columns:2}h1,h2,p,ul,.s,figure,pre,table{column-span:all}h2{break-after:avoid}figure,tr,pre{break-inside:avoid}\n")
    ++ markup (codes "figure>svg{width:11cm;print-color-adjust:exact}details::details-content{content-visibility:visible;block-size:auto}div.w>small:last-child:after{content:', whole'}}\n")

-- what begins the head, up to its title
abbrev pub before_title : List ℕ
before_title = codes "<html lang=en>\n<head>\n<meta charset=utf-8>\n<meta name=viewport content='width=device-width, initial-scale=1'>\n<title>"

-- what ends the title and begins the style
abbrev pub behind_title : List ℕ
behind_title = codes "</title>\n<style>\n"

-- what ends the style and the head, and begins the body with its heading
abbrev pub behind_style : List ℕ
behind_style = codes "</style>\n</head>\n<body>\n<h1>"

-- what the page is called, before what it is of
abbrev pub titled_html : Option (List ℕ) → List ℕ
titled_html None = []
titled_html (Some title) = html_text title ++ markup (codes ": ")

-- the heading
unfoldable pub heading_html : Option (List ℕ) → List ℕ
heading_html title = titled_html title ++ markup (codes "What can be salvaged</h1>\n")

-- all that precedes the title: the first bytes of every page, and what begins the head
abbrev pub head_front : List ℕ
head_front = markup page_mark ++ markup before_title

-- all that follows the title: the end of its tag, the style, and what begins the body
abbrev pub head_back : List ℕ
head_back = markup behind_title ++ (style_base ++ style_text ++ style_picture ++ style_tree) ++ markup behind_style

-- the head of a page
unfoldable pub head_text : Option (List ℕ) → List ℕ → List ℕ
head_text title subject = head_front ++ titled_html title ++ subject ++ head_back ++ heading_html title
