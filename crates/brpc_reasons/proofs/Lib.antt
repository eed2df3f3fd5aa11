mod PiecesInRow
